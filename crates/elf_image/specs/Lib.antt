-- Claims: `elf_entry` and `elf_ram` of Elf, and what they are made of.
-- What proofs keep: `HasTable` and `IsPlaceable` of Elf.
pub mod Elf
