pub mod Fields
pub mod Lines
pub mod Texts
pub mod Reader
