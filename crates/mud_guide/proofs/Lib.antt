mod Lowest
mod Backs
mod Totals
mod Gather
mod Entries
mod Shown
mod Party
mod Replies
mod Parts
mod Listings
mod Rising
pub mod Single
pub mod Walked
