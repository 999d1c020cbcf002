pub mod Texts
pub mod Views
pub mod Lists
pub mod Owners
