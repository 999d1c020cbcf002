pub mod Cuts
pub mod Spots
pub mod Pieces
