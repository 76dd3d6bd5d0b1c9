-- Images: what of a file stands in a guest's RAM, and where the guest starts.
use Rattle.std.specs.Prelude.{ℕ, ◌-◌, ◌++◌, nat_le, List, length, replicate, Result, Ok, Err, if◌then◌else◌}
use Rattle.elf_image.specs.Elf.{elf_entry, elf_ram}
use Rattle.elf_image.specs.declared.fault.ElfFault.{ElfFault}
use Rattle.exp_file.specs.declared.guest_spec.Format.{Format}
use Rattle.exp_file.specs.declared.guest_spec.Format.TheVariants.{Elf, Flat}
use Rattle.bench_build.specs.declared.image_fault.ImageFault.{ImageFault}
use Rattle.bench_build.specs.declared.image_fault.ImageFault.TheVariants.{TooLong, Elf as BadElf}
use Rattle.bench_build.specs.declared.loaded.Loaded.{Loaded}

-- the bytes of a flat file, then zeros; the guest starts at the first byte of RAM
abbrev pub flat_image : ℕ → List ℕ → Result Loaded ImageFault
flat_image size b = if nat_le (length b) size then Ok (record { ram = b ++ replicate (size - length b) 0; entry = 0x80000000 }) else Err TooLong

-- the segments of an ELF file over zeros; the guest starts at the entry of the file
abbrev pub from_elf : List ℕ → Result ℕ ElfFault → Result Loaded ImageFault
from_elf ram (Ok entry) = Ok (record { ram = ram; entry = entry })
from_elf ram (Err fault) = Err (BadElf fault)

abbrev pub elf_image : ℕ → List ℕ → Result Loaded ImageFault
elf_image size b = from_elf (elf_ram b (replicate size 0)) (elf_entry b size)

-- the RAM of this size with a file of this format in it and the entry, or the first fault of the file
abbrev pub image : Format → ℕ → List ℕ → Result Loaded ImageFault
image Elf size b = elf_image size b
image Flat size b = flat_image size b
