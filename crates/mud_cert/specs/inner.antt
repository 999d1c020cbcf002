pub mod Agreement
pub mod Lines
pub mod Opening
pub mod Reader
pub mod Stages
pub mod Tests
pub mod Ways
pub mod Labels
