pub mod Lines
pub mod Brackets
pub mod Units
pub mod Line
pub mod Key
pub mod Explanation
pub mod inner
