pub mod ShorterHistory
pub mod Broken
