pub mod BlkQuiet
pub mod BlkRecords
pub mod DeviceRecords
pub mod Fronts
pub mod NetQuiet
pub mod NetRecords
pub mod Recorded
pub mod Skipping
