-- Claims: all of these. Each says how long or how wide a value is, or what contracts see of a list.
pub mod Frames
pub mod Items
pub mod Names
pub mod Widths
