pub mod Status
pub mod Metrics
pub mod Reply
pub mod inner
