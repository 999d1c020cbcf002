mod Talking
mod Sameness
pub mod Rows
mod Longest
