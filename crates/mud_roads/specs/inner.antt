pub mod Tables
pub mod Goer
pub mod Growing
