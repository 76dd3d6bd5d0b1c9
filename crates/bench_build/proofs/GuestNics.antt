-- The nics of guests: their kind, their limits, and how they stand behind the disks.
use Rattle.std.proofs.Common.{◌≡◌, ℕ, zero, suc, ◌+◌, ◌<◌, ◌≤◌, List, [], ◌∷◌, ◌++◌, map, replicate, length, All, Option, Some, refl, sym, ap, ◌∙◌, arith}
use Rattle.std.specs.Prelude.{slice_get}
use Rattle.std.specs.List.{range_with_len}
use Rattle.std.specs.declared.vec.Vec.{Vec}
use Rattle.std.proofs.lemmas.List.{map-append}
use Rattle.std.proofs.lemmas.List.Elements.{All-nil, All-cons}
use Rattle.std.proofs.lemmas.List.FromFn.{length-map-range_with_len, map-range_with_len_more}
use Rattle.dev_face.specs.States.{IsInLimits, config_kind}
use Rattle.dev_face.specs.declared.config.DevConfig.{DevConfig}
use Rattle.dev_face.specs.declared.kind.Kind.TheVariants as kind
use Rattle.exp_file.specs.Links.{nics_if, nics_of}
use Rattle.exp_file.specs.declared.experiment.Experiment.{Experiment}
use Rattle.exp_file.specs.declared.guest_spec.GuestSpec.{GuestSpec}
use Rattle.exp_file.specs.declared.link_spec.LinkSpec.{LinkSpec}
use Rattle.bench_build.specs.Setups.{disk_configs, disks_and_nics, nic_config, nic_configs, pipes_at}
use Rattle.bench_build.specs.Takings.{AreDisks, with_nics, disks_at, others_at}
use Rattle.bench_build.proofs.GuestDisks.{disks_count}

-- one item more of a list by its places
pub numbered_push : {X : Type 0} (f : ℕ → X) (xs more : List X) (n : ℕ) (x : X) → more ≡ xs ++ x ∷ [] → xs ≡ map f (range_with_len 0 n) → x ≡ f n → more ≡ map f (range_with_len 0 (n + 1))
numbered_push {X} f xs more n x pushed before is =
    pushed
    ∙ ap (λ (zs : List X). zs ++ x ∷ []) before
    ∙ ap (λ (z : X). map f (range_with_len 0 n) ++ z ∷ []) is
    ∙ sym (map-range_with_len_more f 0 n n (omega arith))

-- all of them are nics
kinds_from : (g disks a n : ℕ) → map config_kind (map (nic_config g disks) (range_with_len a n)) ≡ replicate n kind.Net
kinds_from g disks a zero = refl
kinds_from g disks a (suc n) = ap (λ ks. kind.Net ∷ ks) (kinds_from g disks (a + 1) n)

pub nics_count : (g disks n : ℕ) → length (nic_configs g disks n) ≡ n
nics_count g disks n = length-map-range_with_len (nic_config g disks) 0 n

pub nets : (g disks n : ℕ) → map config_kind (nic_configs g disks n) ≡ replicate (length (nic_configs g disks n)) kind.Net
nets g disks n = kinds_from g disks 0 n ∙ ap (λ (k : ℕ). replicate k kind.Net) (sym (nics_count g disks n))

-- a machine has room for them behind two disks
limits_from : (g disks a n : ℕ) → g < 32 → disks ≤ 2 → a + n ≤ 4 → All IsInLimits (map (nic_config g disks) (range_with_len a n))
limits_from g disks a zero low few room = All-nil IsInLimits
limits_from g disks a (suc n) low few room =
    All-cons IsInLimits (nic_config g disks a) (map (nic_config g disks) (range_with_len (a + 1) n))
    (low, omega (arith, room), omega (arith, room, few))
    (limits_from g disks (a + 1) n low few (omega (arith, room)))

-- nics that were made for a guest are within their limits
pub nic_limits : (g disks n : ℕ) → g < 32 → disks ≤ 2 → n ≤ 4 → All IsInLimits (nic_configs g disks n)
nic_limits g disks n low few room = limits_from g disks 0 n low few (omega (arith, room))

-- nics that were made behind so many disks stand behind these
pub nics_behind : (g n count : ℕ) (disks nics : List DevConfig) → nics ≡ nic_configs g count n → count ≡ length disks → disks ++ nics ≡ with_nics g n disks
nics_behind g n count disks nics made many = ap (λ (zs : List DevConfig). disks ++ zs) (made ∙ ap (λ (k : ℕ). nic_configs g k n) many)

-- the kinds of disks and nics
pub kinds_behind : (g n : ℕ) (disks : List DevConfig) → AreDisks disks → map config_kind (with_nics g n disks) ≡ replicate (length disks) kind.Blk ++ replicate n kind.Net
kinds_behind g n disks are =
    map-append config_kind disks (nic_configs g (length disks) n)
    ∙ ap (λ ks. ks ++ map config_kind (nic_configs g (length disks) n)) are.kinds
    ∙ ap (λ ks. replicate (length disks) kind.Blk ++ ks) (kinds_from g (length disks) 0 n)

-- where the lists hold the disks of an experiment, these are its disks and nics
pub others_are : {Z : Type 0} (e : Experiment) (gs : List GuestSpec) (vs : List (Vec DevConfig Z)) (bs : List (List ℕ)) (g : ℕ) → gs ≡ e.guests.items → length e.disks.items ≡ length bs
    → disks_at vs g ≡ disk_configs g 0 e.disks.items bs → others_at gs vs g ≡ disks_and_nics e bs g
others_are e gs vs bs g same long each =
    let n = nics_of e.guests.items g in
    ap (λ (zs : List GuestSpec). with_nics g (nics_of zs g) (disks_at vs g)) same
    ∙ ap (with_nics g n) each
    ∙ ap (λ (k : ℕ). disk_configs g 0 e.disks.items bs ++ nic_configs g k n) (disks_count g 0 e.disks.items bs long)

-- the disks and nics of the guest whose turn it is, and its pipes
pub others_turn : {Z : Type 0} (gs : List GuestSpec) (vs : List (Vec DevConfig Z)) (i n : ℕ) (s : GuestSpec) (ds : List DevConfig) → i ≡ n → slice_get gs n ≡ Some s → disks_at vs n ≡ ds
    → others_at gs vs n ≡ with_nics i s.nics ds
others_turn gs vs i n s ds e at each =
    ap (λ (k : ℕ). with_nics k (nics_of gs n) (disks_at vs n)) (sym e)
    ∙ ap (λ (o : Option GuestSpec). with_nics i (nics_if o) (disks_at vs n)) at
    ∙ ap (with_nics i s.nics) each

pub pipes_turn : (gs : List GuestSpec) (ls : List LinkSpec) (i n : ℕ) (s : GuestSpec) → i ≡ n → slice_get gs n ≡ Some s → pipes_at ls n (nics_of gs n) ≡ pipes_at ls i s.nics
pipes_turn gs ls i n s e at = ap (λ (k : ℕ). pipes_at ls k (nics_of gs n)) (sym e) ∙ ap (λ (o : Option GuestSpec). pipes_at ls i (nics_if o)) at
