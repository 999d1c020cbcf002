pub mod Walks
pub mod Labels
pub mod Passable
pub mod Laws
pub mod inner
