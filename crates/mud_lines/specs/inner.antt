pub mod Typed
pub mod Faults
