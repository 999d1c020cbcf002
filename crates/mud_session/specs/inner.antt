pub mod Wire
pub mod Service
pub mod TurnTexts
pub mod Feeding
