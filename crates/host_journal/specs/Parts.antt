-- A first part of a text, by which the keepers meet the law of views.
use Rattle.std.specs.Prelude.{ℕ, List, [], Option, Bool, true, false}
use Rattle.tb_io.specs.Puts.{Takes, TakesPart}
use Rattle.tb_io.proofs.Parts.{part_whole, part_whole_longer}
use Rattle.host_journal.specs.Standing.{Stands}

-- what stands in a sink is in any case a first part of the text
pub stands_part : (failed : Bool) (before now : Option (List ℕ)) (text : List ℕ) → Stands failed before now text → TakesPart before now text
stands_part false before now text s = part_whole before now text s
stands_part true before now text s = s

-- nothing is a first part of every text
pub nothing_part : (before now : Option (List ℕ)) (text : List ℕ) → Takes before now [] → TakesPart before now text
nothing_part before now text s = part_whole_longer before now [] text s
