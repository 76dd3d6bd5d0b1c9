-- Lists of the code, beside the lists of the definitions.
use Rattle.std.specs.Prelude.{◌≡◌, List, Result, Ok, Err}
use Rattle.tb_base.specs.Items.{Items}
use Rattle.exp_file.specs.declared.exp_fault.ExpErr.{ExpErr}
use Rattle.exp_file.specs.declared.exp_fault.ExpFault.{ExpFault}
use Rattle.exp_file.specs.declared.experiment.Experiment.{Experiment}
use Rattle.exp_file.specs.Keys.{Fails}

-- items with no room for more
abbrev pub listed : {A : Type 0} → List A → Items A
listed xs = record { items = xs; spare = 0 }

-- What a function returned is the list that reading gives, unless memory ran out.
abbrev pub ListGives : {A : Type 0} → Result (Items A) ExpErr → Result (List A) ExpFault → Type 0
ListGives (Ok l) read = read ≡ Ok l.items
ListGives (Err e) read = Fails e read

-- an experiment apart from the room that its lists have
abbrev pub without_room : Experiment → Experiment
without_room e = record { version = e.version; factor = e.factor; slots = listed e.slots.items; guests = listed e.guests.items; disks = listed e.disks.items; links = listed e.links.items }

-- What a function returned is the experiment that reading gives, but for room, unless memory ran out.
abbrev pub Reads : Result Experiment ExpErr → Result Experiment ExpFault → Type 0
Reads (Ok e) read = read ≡ Ok (without_room e)
Reads (Err e) read = Fails e read
