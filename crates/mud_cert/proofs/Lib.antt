pub mod Lookups
pub mod Finds
pub mod Ways
pub mod Doubtless
pub mod Members
pub mod Conclusions
pub mod Optimal
pub mod Valid
pub mod Digits
pub mod Pieces
pub mod Entries
pub mod Heads
pub mod Machine
pub mod Splitting
pub mod Progress
mod Lined
mod Walking
mod Doubting
pub mod First
