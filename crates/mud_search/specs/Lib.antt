pub mod Memory
pub mod Frontier
pub mod Least
pub mod Rooms
pub mod Slots
pub mod Tables
pub mod Tasks
pub mod inner
