pub mod Between
pub mod Passed
