pub mod Session
pub mod State
pub mod Feeds
pub mod Script
pub mod Notices
pub mod Talks
pub mod Laws
pub mod inner
