pub mod Renumbered
pub mod Numbers
pub mod Answer
pub mod inner
