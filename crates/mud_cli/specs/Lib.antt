pub mod Task
pub mod Service
pub mod inner
