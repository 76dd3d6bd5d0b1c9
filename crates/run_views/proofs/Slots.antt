-- Traces and summary are made of the setup, the names and the number of ticks alone.
use Rattle.run_views.proofs.Common.{◌≡◌, ◌∙◌, ℕ, ◌/◌, List, ◌++◌, sym, ap₂, length, map, codes, Rec, Experiment, guests_head, guest_text, guests_text, texts_below, end_word, Head, Inputs, setup, run_rules, IsHead, traces_shown}
use Rattle.trace_rec.specs.Lines.{field}
use Rattle.lookahead_core.specs.Synchronous.{Setup, trace}
use Rattle.guest_machine.specs.Tick.{MachineState, machine_motion}

-- the text of so many ticks of a setup whose guests have these names
text_of : (title : List ℕ) (shown : ℕ → List ℕ → List Rec → List ℕ) → Setup MachineState → List (List ℕ) → ℕ → List ℕ
text_of title shown x names ticks =
    (field title (length names) ++ field (codes " ticks ") ticks ++ codes "\n") ++ texts_below (guest_text shown names (λ g. trace machine_motion x g ticks)) (length names) ++ end_word

is_text : (title : List ℕ) (shown : ℕ → List ℕ → List Rec → List ℕ) (e : Experiment) (i : Inputs) (p : List ℕ) (n : ℕ) (h : Head) → IsHead e n h
    → guests_text title shown h (traces_shown h (run_rules e p i n)) ≡ text_of title shown (setup e i) (map (λ g. g.name) e.guests.items) (n / e.factor)
unfolding guests_text guests_head text_of
is_text title shown e i p n h is = ap₂ (text_of title shown (setup e i)) is.names_are (ap₂ (λ (a b : ℕ). a / b) is.ticks_are is.factor_is)

pub slots_do_not_show : (title : List ℕ) (shown : ℕ → List ℕ → List Rec → List ℕ) (d e : Experiment) (i j : Inputs) (p q : List ℕ) (m n : ℕ) (h k : Head) → IsHead d m h → IsHead e n k
    → setup d i ≡ setup e j → map (λ g. g.name) d.guests.items ≡ map (λ g. g.name) e.guests.items → m / d.factor ≡ n / e.factor
    → guests_text title shown h (traces_shown h (run_rules d p i m)) ≡ guests_text title shown k (traces_shown k (run_rules e q j n))
slots_do_not_show title shown d e i j p q m n h k is are setups names ticks = is_text title shown d i p m h is ∙ rw (setups, names, ticks) (sym (is_text title shown e j q n k are))
