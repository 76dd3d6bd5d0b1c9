-- How the run of a bench ends, and what out has taken then.
use Rattle.std.specs.Prelude.{◌≡◌, ℕ, ◌⊎◌, List, length, map, Option, Result, Ok, Err}
use Rattle.tb_io.specs.Puts.{Takes, TakesPart}
use Rattle.tb_io.specs.declared.write_err.WriteErr.{WriteErr}
use Rattle.tb_io.specs.declared.write_err.WriteErr.TheVariants.{NoMemory}
use Rattle.trace_rec.specs.declared.view.View.{View}
use Rattle.exp_file.specs.declared.experiment.Experiment.{Experiment}
use Rattle.host_journal.specs.Entries.{Entry}
use Rattle.host_journal.specs.declared.head.Head.{Head}
use Rattle.slot_sched.specs.Legal.{Rules, IsLegal, IsComplete}
use Rattle.bench_build.specs.Inputs.{Inputs}
use Rattle.bench_build.specs.Setups.{run_rules}
use Rattle.run_views.specs.Texts.{text}

-- the head of the text of a run, by the factor, how many slots there are, the host ticks, and the names of the guests
pub record HasHead (factor slots host_ticks : ℕ) (names : List (List ℕ)) (h : Head) : Type 0 where
  pub factor_is : h.factor ≡ factor
  pub slots_are : h.slots ≡ slots
  pub ticks_are : h.host_ticks ≡ host_ticks
  pub names_are : h.names.items ≡ names

abbrev pub IsHead : Experiment → ℕ → Head → Type 0
IsHead e host_ticks h = HasHead e.factor (length e.slots.items) host_ticks (map (λ g. g.name) e.guests.items) h

-- out has taken the text of a complete legal journal
abbrev pub PutsWhole : (List Entry → List ℕ) → Rules → Option (List ℕ) → Option (List ℕ) → Type 0
PutsWhole text r old new = (j : List Entry) × IsComplete r j × Takes old new (text j)

-- or a prefix of the text of a legal one, which may have stopped early
abbrev pub PutsCut : (List Entry → List ℕ) → Rules → Option (List ℕ) → Option (List ℕ) → Type 0
PutsCut text r old new = (j : List Entry) × IsLegal r j × TakesPart old new (text j)

-- by these rules a keeper shows this text: the whole of it at the end of every complete journal, and at any time no more than a first part of it
pub record Shows (r : Rules) (whole shown text : List Entry → List ℕ) : Type 0 where
  pub at_last : (j : List Entry) → IsComplete r j → whole j ≡ text j
  pub before : (old new : Option (List ℕ)) (j : List Entry) → TakesPart old new (shown j) → TakesPart old new (text j)

-- how a run by these rules ends that is shown by this text
abbrev pub RunPuts : (List Entry → List ℕ) → Rules → Option (List ℕ) → Option (List ℕ) → Result (Unit {0}) WriteErr → Type 0
RunPuts text r old new (Ok _) = PutsWhole text r old new
RunPuts text r old new (Err _) = PutsCut text r old new

-- the text of a run of so many host ticks in this view, all of it or a prefix
abbrev pub PutsAll : View → Experiment → List ℕ → Inputs → ℕ → Option (List ℕ) → Option (List ℕ) → Type 0
PutsAll view e slots i host_ticks old new =
    let r = run_rules e slots i host_ticks in (h : Head) × IsHead e host_ticks h × PutsWhole (text view h r) r old new

abbrev pub PutsPart : View → Experiment → List ℕ → Inputs → ℕ → Option (List ℕ) → Option (List ℕ) → Type 0
PutsPart view e slots i host_ticks old new =
    let r = run_rules e slots i host_ticks in (h : Head) × IsHead e host_ticks h × PutsCut (text view h r) r old new

-- how the run ends: memory ran out before anything was put, or a keeper under the head of the run put its text, or a prefix
abbrev pub Runs : View → Experiment → List ℕ → Inputs → ℕ → Option (List ℕ) → Option (List ℕ) → Result (Unit {0}) WriteErr → Type 0
Runs view e slots i host_ticks old new result =
    let r = run_rules e slots i host_ticks in
    ((result ≡ Err NoMemory) × (new ≡ old)) ⊎ ((h : Head) × IsHead e host_ticks h × RunPuts (text view h r) r old new result)
