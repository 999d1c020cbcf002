pub mod Quotes
pub mod Map
pub mod Laws
pub mod MapResult
