mod Alarm
mod Shares
mod Still
