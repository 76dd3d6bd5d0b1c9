-- The wires of links join nics that are there, and no two begin or end at one nic; the pipes of links are within their limits.
use Rattle.std.proofs.Common.{◌≡◌, ◌==◌, ◌&&◌, ℕ, zero, suc, ◌+◌, ◌<◌, ◌≤◌, Bool, true, false, cond, List, [], ◌∷◌, ◌++◌, append_assoc, map, length, take, get_or, All, Option, Some, IfSome, refl, sym, ap, ◌∙◌, subst, arith}
use Rattle.std.specs.Prelude.{slice_get}
use Rattle.std.specs.List.{count_by, find, flat_map, range_with_len}
use Rattle.std.specs.Option.{option_map}
use Rattle.std.proofs.lemmas.Bool.{eq-eqb}
use Rattle.std.proofs.lemmas.List.{flat_map_more, take_more}
use Rattle.std.proofs.lemmas.List.Elements.{All-nil, All-cons, All-head, All-tail}
use Rattle.std.proofs.lemmas.List.FromFn.{length-map-range_with_len}
use Rattle.std.proofs.lemmas.List.Sums.{sum_by-cons, get_or-le-sum_by}
use Rattle.exp_file.specs.Links.{nics_of, has_end, ends_at}
use Rattle.exp_file.specs.WellFormed.{IsGuest, IsLink}
use Rattle.exp_file.specs.declared.guest_spec.GuestSpec.{GuestSpec}
use Rattle.exp_file.specs.declared.link_spec.LinkSpec.{LinkSpec}
use Rattle.link_pipe.specs.Piped.{InLimits}
use Rattle.lookahead_core.specs.Opening.{AreOnceFrom, AreOnceTo, IsJoin}
use Rattle.lookahead_core.specs.declared.wire.Wire.{Wire}
use Rattle.guest_machine.specs.Tick.{MachineState, machine_motion}
use Rattle.bench_build.specs.Setups.{pipe_of, pipe_params, pipes_at, wires_of}
use Rattle.bench_build.specs.Takings.{MayBuild}
use Rattle.bench_build.proofs.GuestDisks.{pick}

-- the wires of a link from its first end and to it
abbrev there : LinkSpec → Wire
there l = record { from = l.a; from_nic = l.a_nic; to = l.b; to_nic = l.b_nic; delay = l.delay }

abbrev back : LinkSpec → Wire
back l = record { from = l.b; from_nic = l.b_nic; to = l.a; to_nic = l.a_nic; delay = l.delay }

-- the wires of one link more
pub wires_more : (ls : List LinkSpec) (i : ℕ) (d : LinkSpec) (before between after : List Wire) → i < length ls → before ≡ flat_map wires_of (take i ls)
    → between ≡ before ++ there (get_or ls i d) ∷ [] → after ≡ between ++ back (get_or ls i d) ∷ [] → after ≡ flat_map wires_of (take (i + 1) ls)
wires_more ls i d before between after lt made one two =
    let l : LinkSpec = get_or ls i d in
    two
    ∙ ap (λ (ws : List Wire). ws ++ back l ∷ []) one
    ∙ append_assoc before (there l ∷ []) (back l ∷ [])
    ∙ ap (λ (ws : List Wire). ws ++ wires_of l) made
    ∙ flat_map_more wires_of [] (take i ls) l
    ∙ ap (flat_map wires_of) (sym (take_more ls i d lt))

-- whether a wire begins at a nic, and whether it ends there
abbrev begins_at : ℕ → ℕ → Wire → Bool
begins_at g nic w = w.from == g && w.from_nic == nic

abbrev comes_to : ℕ → ℕ → Wire → Bool
comes_to g nic w = w.to == g && w.to_nic == nic

count_cons : {A : Type 0} (p : A → Bool) (x : A) (xs : List A) → count_by p (x ∷ xs) ≡ cond {A = ℕ} (p x) 1 0 + count_by p xs
count_cons p x xs = sum_by-cons (λ y. cond (p y) 1 0) x xs

-- the wires of links that pass are those from first ends that do, and those from second ends
wire_count : (p : Wire → Bool) (ls : List LinkSpec) → count_by p (flat_map wires_of ls) ≡ count_by (λ l. p (there l)) ls + count_by (λ l. p (back l)) ls
wire_count p [] = refl
wire_count p (l ∷ ls) =
    let wires : List Wire = flat_map wires_of ls in
    let first = count_cons p (there l) (back l ∷ wires) in
    let second = count_cons p (back l) wires in
    let left = count_cons (λ (x : LinkSpec). p (there x)) l ls in
    let right = count_cons (λ (x : LinkSpec). p (back x)) l ls in
    omega (arith, first, second, left, right, wire_count p ls)

-- a link has an end at a nic for each wire that begins there, and for each that ends there
begin_count : (g nic : ℕ) (ls : List LinkSpec) → count_by (begins_at g nic) (flat_map wires_of ls) ≡ ends_at g nic ls
begin_count g nic ls = wire_count (begins_at g nic) ls

end_count : (g nic : ℕ) (ls : List LinkSpec) → count_by (comes_to g nic) (flat_map wires_of ls) ≡ ends_at g nic ls
end_count g nic ls = let count = wire_count (comes_to g nic) ls in omega (arith, count)

-- two items that pass are counted twice
counted : (t : Bool) → t ≡ true → cond {A = ℕ} t 1 0 ≡ 1
counted true e = refl
counted false e = absurd (cc)

one_counts : {A : Type 0} (p : A → Bool) (xs : List A) (i : ℕ) (d : A) → i < length xs → p (get_or xs i d) ≡ true → 1 ≤ count_by p xs
one_counts p xs i d lt holds =
    let le = get_or-le-sum_by (λ y. cond {A = ℕ} (p y) 1 0) xs i d lt in
    omega (arith, le, counted (p (get_or xs i d)) holds)

two_count : {A : Type 0} (p : A → Bool) (xs : List A) (i j : ℕ) (d : A) → i < j → j < length xs → p (get_or xs i d) ≡ true → p (get_or xs j d) ≡ true → 2 ≤ count_by p xs
two_count p [] i j d less lt one two = absurd (omega (arith, lt))
two_count p (x ∷ xs) i zero d less lt one two = absurd (omega (arith, less))
two_count p (x ∷ xs) zero (suc j) d less lt one two =
    omega (arith, counted (p x) one, one_counts p xs j d (omega (arith, lt)) two, count_cons p x xs)
two_count p (x ∷ xs) (suc i) (suc j) d less lt one two =
    omega (arith, two_count p xs i j d (omega (arith, less)) (omega (arith, lt)) one two, count_cons p x xs)

both : (x y g nic : ℕ) → x ≡ g → y ≡ nic → (x == g && y == nic) ≡ true
both x y g nic e f = ap (λ t. t && (y == nic)) (eq-eqb x g e) ∙ eq-eqb y nic f

-- so where each nic has one end at most, no two wires begin or end at one
pub once_from : (ls : List LinkSpec) (ws : List Wire) → ws ≡ flat_map wires_of ls → ((g nic : ℕ) → ends_at g nic ls ≤ 1) → AreOnceFrom ws
once_from ls ws made one = λ i j d less lt from nic.
    let w : Wire = get_or ws j d in
    let here = both (get_or ws i d).from (get_or ws i d).from_nic w.from w.from_nic from nic in
    let two = two_count (begins_at w.from w.from_nic) ws i j d less lt here (both w.from w.from_nic w.from w.from_nic refl refl) in
    let count = ap (count_by (begins_at w.from w.from_nic)) made ∙ begin_count w.from w.from_nic ls in
    absurd (omega (arith, two, count, one w.from w.from_nic))

pub once_to : (ls : List LinkSpec) (ws : List Wire) → ws ≡ flat_map wires_of ls → ((g nic : ℕ) → ends_at g nic ls ≤ 1) → AreOnceTo ws
once_to ls ws made one = λ i j d less lt to nic.
    let w : Wire = get_or ws j d in
    let here = both (get_or ws i d).to (get_or ws i d).to_nic w.to w.to_nic to nic in
    let two = two_count (comes_to w.to w.to_nic) ws i j d less lt here (both w.to w.to_nic w.to w.to_nic refl refl) in
    let count = ap (count_by (comes_to w.to w.to_nic)) made ∙ end_count w.to w.to_nic ls in
    absurd (omega (arith, two, count, one w.to w.to_nic))

-- the wires of links among these guests join nics that their machines have
joins : {M : Type 0} (state : M → MachineState) (ms : List M) (gs : List GuestSpec) (ls : List LinkSpec) → All (IsLink gs) ls → length ms ≡ length gs
    → ((g : ℕ) (m : M) → slice_get ms g ≡ Some m → length (state m).map.pipes ≡ nics_of gs g) → All (λ w. IsJoin machine_motion state ms w) (flat_map wires_of ls)
joins {M} state ms gs [] all many nics = All-nil (λ w. IsJoin machine_motion state ms w)
joins {M} state ms gs (l ∷ ls) all many nics =
    let is : IsLink gs l = All-head (IsLink gs) l ls all in
    let P : Wire → Type 0 = λ w. IsJoin machine_motion state ms w in
    All-cons P (there l) (back l ∷ flat_map wires_of ls)
    (record {
      from_in = omega (arith, is.a, many);
      to_in = omega (arith, is.b, many);
      from_nic_in = λ m at. omega (arith, is.a_nic, nics l.a m at);
      to_nic_in = λ m at. omega (arith, is.b_nic, nics l.b m at);
      later = is.delay_low;
      near = is.delay_high;
    })
    (All-cons P (back l) (flat_map wires_of ls)
    (record {
      from_in = omega (arith, is.b, many);
      to_in = omega (arith, is.a, many);
      from_nic_in = λ m at. omega (arith, is.b_nic, nics l.b m at);
      to_nic_in = λ m at. omega (arith, is.a_nic, nics l.a m at);
      later = is.delay_low;
      near = is.delay_high;
    })
    (joins state ms gs ls (All-tail (IsLink gs) l ls all) many nics))

pub wires_join : {M : Type 0} (state : M → MachineState) (ms : List M) (gs : List GuestSpec) (ls : List LinkSpec) (ws : List Wire) → ws ≡ flat_map wires_of ls → All (IsLink gs) ls
    → length ms ≡ length gs → ((g : ℕ) (m : M) → slice_get ms g ≡ Some m → length (state m).map.pipes ≡ nics_of gs g) → All (λ w. IsJoin machine_motion state ms w) ws
wires_join state ms gs ls ws made all many nics = subst (All (λ w. IsJoin machine_motion state ms w)) (sym made) (joins state ms gs ls all many nics)

-- a guest has a pipe or none for each of its nics
pub pipes_count : (ls : List LinkSpec) (g n : ℕ) → length (pipes_at ls g n) ≡ n
pipes_count ls g n = length-map-range_with_len (pipe_of ls g) 0 n

-- the pipes of links are within their limits
pub links_in_limits : (gs : List GuestSpec) (ls : List LinkSpec) → All (IsLink gs) ls → All (λ l. InLimits (pipe_params l)) ls
links_in_limits gs ls all = λ k d lt.
    let is : IsLink gs (get_or ls k d) = all k d lt in
    (is.bandwidth_low, is.bandwidth_high, is.queue_low, is.queue_high)

pipe_in_limits : (ls : List LinkSpec) (g nic : ℕ) → All (λ l. InLimits (pipe_params l)) ls → IfSome (pipe_of ls g nic) InLimits
pipe_in_limits [] g nic all = tt
pipe_in_limits (l ∷ ls) g nic all =
    pick (λ (o : Option LinkSpec). IfSome (option_map pipe_params o) InLimits) (has_end g nic l) (Some l) (find (has_end g nic) ls)
    (λ yes. All-head (λ x. InLimits (pipe_params x)) l ls all)
    (λ no. pipe_in_limits ls g nic (All-tail (λ x. InLimits (pipe_params x)) l ls all))

limits_from : (ls : List LinkSpec) (g a n : ℕ) → All (λ l. InLimits (pipe_params l)) ls → All (λ p. IfSome p InLimits) (map (pipe_of ls g) (range_with_len a n))
limits_from ls g a zero all = All-nil (λ p. IfSome p InLimits)
limits_from ls g a (suc n) all =
    All-cons (λ p. IfSome p InLimits) (pipe_of ls g a) (map (pipe_of ls g) (range_with_len (a + 1) n)) (pipe_in_limits ls g a all) (limits_from ls g (a + 1) n all)

pub pipes_in_limits : (ls : List LinkSpec) (g n : ℕ) → All (λ l. InLimits (pipe_params l)) ls → All (λ p. IfSome p InLimits) (pipes_at ls g n)
pipes_in_limits ls g n all = limits_from ls g 0 n all

-- a machine can be built for each guest of an experiment
pub guests_may : (slots : ℕ) (gs : List GuestSpec) → All (IsGuest slots) gs → All MayBuild gs
guests_may slots gs all = λ k d lt.
    let is : IsGuest slots (get_or gs k d) = all k d lt in
    record { rate_low = is.rate_low; rate_high = is.rate_high; nics = is.nics }
