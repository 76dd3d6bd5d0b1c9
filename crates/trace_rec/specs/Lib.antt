-- Claims: Lines, which the headline rests on, Shown, Ticks, and Values for the law that lines are told apart.
pub mod Lines
pub mod Shown
pub mod Ticks
pub mod Values
