pub mod Address
pub mod Number
pub mod Network
pub mod Bans
