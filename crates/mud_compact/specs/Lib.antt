pub mod Recovery
pub mod Front
pub mod Shorter
pub mod Rows
pub mod Laws
pub mod Answer
pub mod inner
