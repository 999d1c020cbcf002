mod Leaving
mod Feeding
mod Stepping
pub mod Crosses
mod Going
