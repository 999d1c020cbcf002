pub mod Grown
mod Cutting
pub mod Lined
mod Digits
mod Spelled
mod Again
mod Lines
mod Telling
mod Begun
pub mod Spellable
mod Returns
pub mod Fronts
pub mod Zeros
pub mod BeforeZero
