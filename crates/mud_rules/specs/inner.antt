pub mod Outcome
pub mod Matches
pub mod Bars
pub mod Verbs
pub mod ObjectLists
