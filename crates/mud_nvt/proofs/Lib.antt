pub mod Cutting
pub mod Typing
pub mod Whole
pub mod Cuts
pub mod Sound
pub mod Runs
pub mod Stopping
