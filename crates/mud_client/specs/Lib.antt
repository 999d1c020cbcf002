pub mod Framed
pub mod Sayings
pub mod Client
pub mod Steps
pub mod inner
pub mod Resting
