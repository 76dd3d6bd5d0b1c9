-- Claims: Boxes, how many devices of each kind the program has, and Codes, the exit status of each end.
pub mod Boxes
pub mod Codes
