-- Claims: Words says what words ask for, by the places that Parses gives them; Ranges says which numbers they may have; Usual which words the law of
-- usual words speaks of.
-- What proofs keep: Forms.
pub mod Forms
pub mod Parses
pub mod Ranges
pub mod Usual
pub mod Words
