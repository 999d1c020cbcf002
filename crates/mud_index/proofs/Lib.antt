pub mod Places
pub mod Seen
pub mod Texts
