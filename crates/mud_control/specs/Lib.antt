pub mod Hosts
pub mod Refusals
