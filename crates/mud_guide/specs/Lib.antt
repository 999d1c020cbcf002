pub mod Ways
pub mod Legs
pub mod Accounts
pub mod Texts
pub mod Answers
pub mod Laws
pub mod inner
