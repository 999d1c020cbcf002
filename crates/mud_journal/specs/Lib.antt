pub mod Disk
pub mod Crash
pub mod Found
pub mod OpenFaults
pub mod Laws
