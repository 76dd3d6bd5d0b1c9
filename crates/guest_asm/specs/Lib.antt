-- Claims: all of these. Layout has the layouts that OpWord is made of.
pub mod Layout
pub mod OpWord
pub mod Programs
