mod Grown
pub mod Disks
mod Finding
mod Crashes
pub mod Crosses
