-- The rule by which guests are placed. A guest with a given slot stands there. The others are taken by falling rate, those of one rate in their order; each goes to the
-- first slot on which it still fits, else to the one that has most left, where less than nothing may be left.
use Rattle.std.specs.Prelude.{◌==◌, ℕ, zero, suc, ◌+◌, ◌&&◌, ◌||◌, not, nat_le, nat_lt, Bool, false, List, map, length, Option, Some, None, slice_get, slice_set, if◌then◌else◌}
use Rattle.std.specs.List.{filter, sum, count_by, list_all, position_or_len, range_with_len}
use Rattle.std.specs.Option.{is_none, unwrap_or}
use Rattle.exp_file.specs.declared.experiment.Experiment.{Experiment}
use Rattle.exp_file.specs.declared.guest_spec.GuestSpec.{GuestSpec}
use Rattle.host_plan.specs.declared.fill.Fill.{Fill}
use Rattle.host_plan.specs.declared.assignment.Assignment.{Assignment}
use Rattle.host_plan.specs.Fits.{have}

abbrev pub assignment_of : GuestSpec → Assignment
assignment_of g = record { rate = g.rate; home = g.slot }

abbrev pub is_free : Assignment → Bool
is_free x = is_none x.home

-- how many have no slot yet
abbrev pub free_count : List Assignment → ℕ
free_count assignments = count_by is_free assignments

-- a guest without a slot that no other such guest exceeds in rate
abbrev pub is_next : List Assignment → Assignment → Bool
is_next assignments x = is_free x && list_all (λ y. not (is_free y) || nat_le y.rate x.rate) assignments

-- the first of them
abbrev pub next : List Assignment → ℕ
next assignments = position_or_len (is_next assignments) assignments

-- what the guests placed so far need of a slot
abbrev pub is_at : ℕ → Option ℕ → Bool
is_at s None = false
is_at s (Some t) = t == s

abbrev pub need_so_far : List Assignment → ℕ → ℕ
need_so_far assignments s = sum (map (λ x. x.rate) (filter (λ x. is_at s x.home) assignments))

-- how full each slot is
abbrev pub fill_of : Experiment → List Assignment → ℕ → Fill
fill_of e assignments s = record { need = need_so_far assignments s; have = have e s }

abbrev pub fills_of : Experiment → List Assignment → List Fill
fills_of e assignments = map (fill_of e assignments) (range_with_len 0 (length e.slots.items))

-- a slot on which a rate still fits
abbrev pub has_room : ℕ → Fill → Bool
has_room rate l = nat_le (l.need + rate) l.have

-- a slot that no other exceeds in what it has left, have - need as a signed number
abbrev pub is_roomiest : List Fill → Fill → Bool
is_roomiest ls l = list_all (λ k. nat_le (k.have + l.need) (l.have + k.need)) ls

abbrev pub first_room : ℕ → List Fill → ℕ
first_room rate ls = position_or_len (has_room rate) ls

abbrev pub choice : ℕ → List Fill → ℕ
choice rate ls = if nat_lt (first_room rate ls) (length ls) then first_room rate ls else position_or_len (is_roomiest ls) ls

-- one guest more placed, the next one
abbrev pub settle_at : List Fill → List Assignment → ℕ → Option Assignment → List Assignment
settle_at ls assignments i None = assignments
settle_at ls assignments i (Some x) = slice_set assignments i (record { rate = x.rate; home = Some (choice x.rate ls) })

unfoldable pub settle : List Fill → List Assignment → List Assignment
settle ls assignments = settle_at ls assignments (next assignments) (slice_get assignments (next assignments))

-- so many guests more placed
unfoldable pub settled : Experiment → ℕ → List Assignment → List Assignment
settled e zero assignments = assignments
settled e (suc n) assignments = settled e n (settle (fills_of e assignments) assignments)

-- all guests placed
unfoldable pub assigned : Experiment → List Assignment
assigned e = settled e (length e.guests.items) (map assignment_of e.guests.items)

abbrev pub home_of : Assignment → ℕ
home_of x = unwrap_or x.home 0

-- the placement of an experiment
unfoldable pub placed : Experiment → List ℕ
placed e = map home_of (assigned e)
