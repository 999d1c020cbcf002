pub mod Rising
pub mod Lists
pub mod Owners
pub mod inner
