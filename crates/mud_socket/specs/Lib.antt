pub mod Entrance
pub mod Parting
pub mod Patience
pub mod inner
