-- Claims: Reading says what an experiment file says, of the definitions in Keys, Tables, Disks, Links, Arrays, Lists and Unknown; WellFormed
-- says what every experiment that is read keeps.
-- What proofs keep: TableOf and Kept, and in Lists and Arrays all but `listed`, `Reads` and `arrays_of`.
pub mod Keys
pub mod TableOf
pub mod Lists
pub mod Arrays
pub mod Tables
pub mod Disks
pub mod Links
pub mod Reading
pub mod WellFormed
pub mod Kept
pub mod Unknown
