-- The line of each status.
use Rattle.std.specs.Prelude.{◌≡◌, ℕ, nat_le, ◌&&◌, Bool, true, false, if◌then◌else◌, List, [], ◌∷◌, ◌++◌, map, Option, codes, MatchBool}
use Rattle.std.specs.Fmt.{decimal}
use Rattle.tb_io.specs.Causes.{Rose}
use Rattle.tb_io.specs.Puts.{Takes, TakesPart}
use Rattle.exp_file.specs.declared.exp_fault.ExpFault.{ExpFault}
use Rattle.exp_file.specs.declared.exp_why.ExpWhy.{ExpWhy}
use Rattle.exp_file.specs.declared.exp_why.ExpWhy.TheVariants.{NotToml, Missing, Unknown, WrongKind, Range, Twice, NoSuchGuest, NicTaken, NicRange, NoGuest, NoSlot}
use Rattle.exp_file.specs.declared.section.Section.{Section}
use Rattle.exp_file.specs.declared.section.Section.TheVariants.{Top, Slot, Guest, Disk, Link}
use Rattle.elf_image.specs.declared.fault.ElfFault.{ElfFault}
use Rattle.elf_image.specs.declared.fault.ElfFault.TheVariants as elf
use Rattle.bench_build.specs.declared.image_fault.ImageFault.{ImageFault}
use Rattle.bench_build.specs.declared.image_fault.ImageFault.TheVariants as image
use Rattle.dev_face.specs.declared.kind.Kind.{Kind}
use Rattle.dev_face.specs.declared.kind.Kind.TheVariants as kind
use Rattle.bench_build.specs.declared.build_fault.BuildFault.{BuildFault}
use Rattle.bench_build.specs.declared.build_fault.BuildFault.TheVariants as build
use Rattle.words_line.specs.declared.word_fault.WordFault.{WordFault}
use Rattle.words_line.specs.declared.word_fault.WordFault.TheVariants.{NotWords, UnknownCommand, EmptyName, ExtraOption, MissingOption, BadNumber, BadView}
use Rattle.open_images.specs.declared.file_id.FileId.{FileId}
use Rattle.open_images.specs.declared.file_id.FileId.TheVariants as file
use Rattle.tb_top.specs.declared.status.Status.{Status}
use Rattle.tb_top.specs.declared.status.Status.TheVariants.{Done, Overload, Usage, Experiment, Build, TooLong, ReadFault, WriteFault, Memory}

abbrev pub usage_word : WordFault → List ℕ
usage_word NotWords = codes "not-words"
usage_word UnknownCommand = codes "unknown-command"
usage_word EmptyName = codes "empty-name"
usage_word ExtraOption = codes "extra-option"
usage_word MissingOption = codes "missing-option"
usage_word BadNumber = codes "bad-number"
usage_word BadView = codes "bad-view"

abbrev pub why_word : ExpWhy → List ℕ
why_word NotToml = codes "not-toml"
why_word Missing = codes "missing"
why_word Unknown = codes "unknown"
why_word WrongKind = codes "wrong-kind"
why_word Range = codes "range"
why_word Twice = codes "twice"
why_word NoSuchGuest = codes "no-such-guest"
why_word NicTaken = codes "nic-taken"
why_word NicRange = codes "nic-range"
why_word NoGuest = codes "no-guest"
why_word NoSlot = codes "no-slot"

abbrev pub section_word : Section → List ℕ
section_word Top = codes " top "
section_word Slot = codes " slot "
section_word Guest = codes " guest "
section_word Disk = codes " disk "
section_word Link = codes " link "

-- a byte of a key, or a question mark for one that is no visible ASCII character
abbrev pub shown_byte : ℕ → ℕ
shown_byte b = if nat_le 0x21 b && nat_le b 0x7e then b else 63

abbrev pub shown_key : List ℕ → List ℕ
shown_key [] = codes "-"
shown_key (b ∷ bs) = map shown_byte (b ∷ bs)

unfoldable pub fault_words : ExpFault → List ℕ
fault_words f = why_word f.why ++ (section_word f.section ++ (decimal f.index ++ (codes " " ++ shown_key f.key)))

abbrev pub elf_word : ElfFault → List ℕ
elf_word elf.NotElf = codes ": not-elf"
elf_word elf.Truncated = codes ": truncated"
elf_word elf.WrongKind = codes ": wrong-kind"
elf_word (elf.BadSegment n) = codes ": bad-segment"
elf_word (elf.OutsideRam n) = codes ": outside-ram"
elf_word elf.BadEntry = codes ": bad-entry"

-- the number of the program header of the segment that is at fault
abbrev pub header_words : ElfFault → List ℕ
header_words (elf.BadSegment n) = codes " " ++ decimal n
header_words (elf.OutsideRam n) = codes " " ++ decimal n
header_words _ = []

abbrev pub image_words : ImageFault → List ℕ
image_words image.TooLong = codes ": too-long"
image_words (image.Elf fault) = elf_word fault ++ header_words fault

abbrev pub kind_word : Kind → List ℕ
kind_word kind.Clint = codes "clint"
kind_word kind.Uart = codes "uart"
kind_word kind.Blk = codes "blk"
kind_word kind.Net = codes "net"

abbrev pub file_words : FileId → List ℕ
file_words file.Experiment = codes "experiment"
file_words (file.Image i) = codes "image " ++ decimal i
file_words (file.Disk i) = codes "disk " ++ decimal i

-- how long the content of a disk is, and how long it may be
abbrev pub size_words : ℕ → ℕ → List ℕ
size_words len room = codes ": " ++ decimal len ++ codes " bytes, room " ++ decimal room

unfoldable pub build_words : BuildFault → List ℕ
build_words (build.Image guest fault) = codes "image " ++ decimal guest ++ image_words fault
build_words (build.DiskSize disk len room) = codes "disk " ++ decimal disk ++ size_words len room
build_words (build.NoDevice k wanted had) = codes "stock: " ++ kind_word k ++ codes " wanted " ++ decimal wanted ++ codes ", had " ++ decimal had
build_words build.NoMemory = codes "out of memory"

-- the line of a status; `Done` has none
unfoldable pub status_line : Status → List ℕ
status_line Done = []
status_line (Overload slot need have) =
    codes "diecast: overload: slot " ++ decimal slot ++ codes " needs " ++ decimal need ++ codes ", has " ++ decimal have ++ codes "\n"
status_line (Usage f) = codes "diecast: usage: " ++ usage_word f ++ codes "\n"
status_line (Experiment f) = codes "diecast: experiment: " ++ fault_words f ++ codes "\n"
status_line (Build f) = codes "diecast: " ++ build_words f ++ codes "\n"
status_line (TooLong f) = codes "diecast: too long: " ++ file_words f ++ codes "\n"
status_line (ReadFault f) = codes "diecast: read fault: " ++ file_words f ++ codes "\n"
status_line WriteFault = codes "diecast: write fault\n"
status_line Memory = codes "diecast: out of memory\n"

abbrev pub is_done : Status → Bool
is_done Done = true
is_done _ = false

-- whether the line of a status is made, which takes memory: `Done` has none, and two are constants
abbrev pub is_made : Status → Bool
is_made Done = false
is_made WriteFault = false
is_made Memory = false
is_made _ = true

-- a sink took this line, and where its count rose maybe only a first part of it
pub record SaysLine (line : List ℕ) (old new : Option (List ℕ)) (before now : ℕ) : Type 0 where
  pub part : TakesPart old new line
  pub whole : ¬ Rose before now → Takes old new line

-- what the message's sink took: nothing after `Done`, else the line of the status
abbrev pub Told : Status → Option (List ℕ) → Option (List ℕ) → ℕ → ℕ → Type 0
Told s old new before now = MatchBool (is_done s) (new ≡ old) (SaysLine (status_line s) old new before now)
