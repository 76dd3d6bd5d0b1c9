-- Claims: all of these. Csrs is what contracts see of the registers, and Addresses and Causes name the numbers of the manual.
pub mod Addresses
pub mod Causes
pub mod Csrs
pub mod Interrupts
pub mod Table
pub mod Traps
