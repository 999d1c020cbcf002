pub mod Differences
pub mod Rows
pub mod Laws
pub mod Answer
pub mod inner
