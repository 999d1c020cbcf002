pub mod Begun
pub mod Crosses
pub mod Keeping
pub mod Written
pub mod Pieces
