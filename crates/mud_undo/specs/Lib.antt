pub mod Choices
pub mod Without
pub mod Answer
pub mod inner
