-- Claims: all of these. Table is the table of instructions, Fields has the operands in a word, and Ranges says which of them a word can hold.
pub mod Fields
pub mod Ranges
pub mod Table
