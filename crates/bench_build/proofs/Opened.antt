-- Devices that were set up.
use Rattle.std.proofs.Common.{◌≡◌, ℕ, List, [], ◌∷◌, ◌++◌, All, map, length, refl, sym, ap, ◌∙◌}
use Rattle.std.proofs.lemmas.List.{map-append}
use Rattle.std.proofs.lemmas.List.Elements.{All-cons, All-nil}
use Rattle.dev_face.specs.declared.config.DevConfig.{DevConfig}
use Rattle.dev_face.specs.declared.config.DevConfig.TheVariants as config
use Rattle.dev_face.specs.declared.kind.Kind.{Kind}
use Rattle.dev_face.specs.declared.kind.Kind.TheVariants as kind
use Rattle.dev_face.specs.States.{DevState, IsComing, opening, kind_of, config_kind}
use Rattle.guest_machine.specs.Opening.{machine_kinds}
use Rattle.bench_build.specs.Takings.{AreDisks, with_base, with_nics}
use Rattle.bench_build.proofs.GuestNics.{kinds_behind}

-- a device is of the kind that its configuration is for
kind_opened : (c : DevConfig) → kind_of (opening c) ≡ config_kind c
kind_opened config.Clint = refl
kind_opened config.Uart = refl
kind_opened (config.Blk sectors params content disk slot) = refl
kind_opened (config.Net guest nic slot) = refl

kinds_opened : (cs : List DevConfig) → map kind_of (map opening cs) ≡ map config_kind cs
kinds_opened [] = refl
kinds_opened (c ∷ cs) = ap (λ (k : Kind). k ∷ map kind_of (map opening cs)) (kind_opened c) ∙ ap (λ ks. config_kind c ∷ ks) (kinds_opened cs)

-- it has begun no tick, and has nothing in flight
coming_opened : (n : ℕ) (c : DevConfig) → IsComing 0 n (opening c)
coming_opened n config.Clint = record { set_up = refl; next = refl; flies = tt }
coming_opened n config.Uart = record { set_up = refl; next = refl; flies = tt }
coming_opened n (config.Blk sectors params content disk slot) = record { set_up = refl; next = refl; flies = tt }
coming_opened n (config.Net guest nic slot) = record { set_up = refl; next = refl; flies = tt }

pub all_coming : (n : ℕ) (cs : List DevConfig) → All (IsComing 0 n) (map opening cs)
all_coming n [] = All-nil (IsComing 0 n)
all_coming n (c ∷ cs) = All-cons (IsComing 0 n) (opening c) (map opening cs) (coming_opened n c) (all_coming n cs)

-- the devices of a guest are those of a machine with its disks and nics
pub machine_has : (g nics : ℕ) (disks : List DevConfig) → AreDisks disks → map kind_of (map opening (with_base (with_nics g nics disks))) ≡ machine_kinds (length disks) nics
machine_has g nics disks are =
    kinds_opened (with_base (with_nics g nics disks)) ∙ ap (λ ks. kind.Clint ∷ kind.Uart ∷ ks) (kinds_behind g nics disks are)

-- a Clint and a Uart, then disks and then nics, that were put behind one another
pub opened_behind : (one two three : List DevState) (disks nics : List DevConfig) → one ≡ map opening (config.Clint ∷ config.Uart ∷ []) → two ≡ one ++ map opening disks
    → three ≡ two ++ map opening nics → three ≡ map opening (with_base (disks ++ nics))
opened_behind one two three disks nics first second third =
    third
    ∙ ap (λ (zs : List DevState). zs ++ map opening nics) (second ∙ ap (λ (zs : List DevState). zs ++ map opening disks) first)
    ∙ ap (λ (zs : List DevState). opening config.Clint ∷ opening config.Uart ∷ zs) (sym (map-append opening disks nics))
