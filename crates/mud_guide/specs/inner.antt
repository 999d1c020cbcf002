pub mod Arrivals
pub mod Gatherings
pub mod Listings
pub mod Members
pub mod Travellers
