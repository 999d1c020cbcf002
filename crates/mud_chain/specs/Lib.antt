pub mod Chain
pub mod Answer
pub mod inner
