mod Claims
mod Common
mod Endings
