-- What an experiment file says: the experiment, or the first fault.
use Rattle.std.specs.Prelude.{ℕ, List, [], length, Option, Some, None, Result, Ok, Err, codes, if◌then◌else◌}
use Rattle.std.specs.Str.{is_utf8}
use Rattle.toml.specs.Data.{Members}
use Rattle.toml.specs.Parse.{parse_document}
use Rattle.exp_file.specs.declared.exp_fault.ExpFault.{ExpFault}
use Rattle.exp_file.specs.declared.exp_why.ExpWhy.TheVariants.{NotToml}
use Rattle.exp_file.specs.declared.section.Section.TheVariants.{Top}
use Rattle.exp_file.specs.declared.experiment.Experiment.{Experiment}
use Rattle.exp_file.specs.Keys.{◌>>=◌, Table, number, known}
use Rattle.exp_file.specs.Arrays.{TopItems, arrays_of}
use Rattle.exp_file.specs.Lists.{listed}
use Rattle.exp_file.specs.Tables.{each, slot_step, guest_step}
use Rattle.exp_file.specs.Disks.{disk_step}
use Rattle.exp_file.specs.Links.{link_step}

-- the experiment that the arrays of its tables say
unfoldable pub lists_of : ℕ → ℕ → TopItems → Result Experiment ExpFault
lists_of version factor a = do
  slots ← each slot_step [] a.slots
  guests ← each (guest_step (length slots)) [] a.guests
  disks ← each (disk_step guests) [] a.disks
  links ← each (link_step guests) [] a.links
  Ok (record { version = version; factor = factor; slots = listed slots; guests = listed guests; disks = listed disks; links = listed links })

-- the experiment that a file's own table says
unfoldable pub top_of : Table → Result Experiment ExpFault
top_of t = do
  _ ← known t
  version ← number t (codes "version") 1 1
  factor ← number t (codes "factor") 1 1000
  a ← arrays_of t
  lists_of version factor a

-- the table that the bytes are, where they are a text
abbrev pub document : List ℕ → Option Members
document b = if is_utf8 b then parse_document b else None

abbrev pub of_document : Option Members → Result Experiment ExpFault
of_document None = Err (record { why = NotToml; section = Top; index = 0; key = [] })
of_document (Some ms) = top_of (record { section = Top; index = 0; members = ms })

-- the experiment that the bytes of a file say, with no room in its lists, or why the file is refused
unfoldable pub reading : List ℕ → Result Experiment ExpFault
reading b = of_document (document b)
