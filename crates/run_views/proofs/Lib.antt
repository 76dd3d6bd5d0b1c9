mod Common
mod Shown
mod Slots
