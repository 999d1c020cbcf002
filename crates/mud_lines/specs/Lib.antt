pub mod Typing
pub mod Answer
pub mod inner
