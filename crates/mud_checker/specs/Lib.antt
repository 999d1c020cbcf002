pub mod Finding
pub mod Verdict
pub mod Laws
