pub mod Words
pub mod Line
pub mod Prepositions
pub mod Parse
pub mod Laws
pub mod Grammar
pub mod inner
