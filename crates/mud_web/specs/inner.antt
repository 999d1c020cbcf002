pub mod Cuts
pub mod Found
pub mod Fronts
pub mod HostPlaces
pub mod Places
pub mod Playing
pub mod Steps
