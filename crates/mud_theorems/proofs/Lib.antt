mod Calls
mod Merging
mod Listing
mod OneRun
mod Lasting
mod Owning
mod Texts
mod Browsing
mod Small
mod Talked
mod Connections
mod Claims
mod Keeping
pub mod Feeding
pub mod Jobs
mod Crosses
mod Crossings
mod Sample
