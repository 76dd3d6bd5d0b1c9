-- Claims: LittleEndian and Pages. Tables says how pages are kept.
pub mod LittleEndian
pub mod Pages
pub mod Tables
