-- What a keeper of each guest's first ticks shows is the text of a view.
use Rattle.run_views.proofs.Common.{◌≡◌, ◌∙◌, ℕ, zero, suc, ◌<◌, ◌≤◌, ◌/◌, List, [], ◌++◌, length, refl, sym, ap, ap₂, subst, arith, Option, Result, TakesPart, Rec, View, Experiment, Entry, ticks_shown, recs_below, guest_text, guests_text, guests_of, guests_head, texts_below, end_word, name_at, Head, Rules, IsComplete, IsHead, Shows, RunPuts, ShowsGuests, text, traces_shown}
use Rattle.std.proofs.lemmas.List.{length-map}
use Rattle.tb_io.proofs.Parts.{part_longer}
use Rattle.tb_io.specs.declared.write_err.WriteErr.{WriteErr}
use Rattle.lookahead_core.specs.Synchronous.{Setup}
use Rattle.guest_machine.specs.Tick.{MachineState, machine_motion}
use Rattle.slot_sched.specs.Schedule.{HostSetup, rules}

-- texts of guests that are alike below n
alike_below : (t u : ℕ → List ℕ) (n : ℕ) → ((g : ℕ) → g < n → t g ≡ u g) → texts_below t n ≡ texts_below u n
alike_below t u zero same = refl
alike_below t u (suc n) same = ap₂ (λ (a b : List ℕ). a ++ b) (alike_below t u n (λ g lt. same g (omega (arith, lt)))) (same n (omega arith))

guests_alike : (title : List ℕ) (shown : ℕ → List ℕ → List Rec → List ℕ) (h : Head) (r s : ℕ → List Rec) → ((g : ℕ) → g < length h.names.items → r g ≡ s g)
    → guests_text title shown h r ≡ guests_text title shown h s
unfolding guests_text
guests_alike title shown h r s same =
    ap (λ (mid : List ℕ). guests_head title h ++ mid ++ end_word)
    (alike_below (guest_text shown h.names.items r) (guest_text shown h.names.items s) (length h.names.items) (λ g lt. ap (shown g (name_at h.names.items g)) (same g lt)))

-- at last it shows the ticks of the synchronous system, which a complete journal tells of each guest, as early says
pub guests_show : (title : List ℕ) (shown : ℕ → List ℕ → List Rec → List ℕ) (view : View) (e : Experiment) (n : ℕ) (h : Head) (r : Rules)
    → IsHead e n h → ShowsGuests view title shown
    → ((j : List Entry) (g k : ℕ) → IsComplete r j → g < length e.guests.items → k ≤ n / e.factor → recs_below k j g ≡ r.trace g k)
    → Shows r (guests_of title shown h) (λ _. []) (text view h r)
guests_show title shown view e n h r is of early =
    let ticks : ticks_shown h ≡ n / e.factor = ap₂ (λ (a b : ℕ). a / b) is.ticks_are is.factor_is in
    let names : length h.names.items ≡ length e.guests.items = ap length is.names_are ∙ length-map e.guests.items (λ g. g.name) in
    record {
      at_last = λ j complete. guests_alike title shown h (recs_below (ticks_shown h) j) (traces_shown h r)
          (λ g lt. early j g (ticks_shown h) complete (omega (arith, lt, names)) (omega (arith, ticks))) ∙ sym (of h r j);
      before = λ old new j part. subst (λ (t : List ℕ). TakesPart old new t) (sym (of h r j)) (part_longer old new [] (guests_text title shown h (traces_shown h r)) part);
    }

-- what is put by the rules of the setup of a host is put by those of the same setup
pub put_by : (x : Setup MachineState) {p q : HostSetup} (whole shown t : List Entry → List ℕ) (old new : Option (List ℕ)) (result : Result (Unit {0}) WriteErr) → p ≡ q
    → (Shows (rules machine_motion x p) whole shown t → RunPuts t (rules machine_motion x p) old new result)
    → Shows (rules machine_motion x q) whole shown t → RunPuts t (rules machine_motion x q) old new result
put_by x whole shown t old new result same = subst (λ (q : HostSetup). Shows (rules machine_motion x q) whole shown t → RunPuts t (rules machine_motion x q) old new result) same
