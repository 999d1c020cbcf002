pub mod Bucket
pub mod Calls
pub mod Debt
pub mod Laws
