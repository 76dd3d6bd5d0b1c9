mod Ending
mod Nothing
