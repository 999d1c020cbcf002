pub mod Names
pub mod Draft
pub mod inner
pub mod Volume
pub mod Lefts
pub mod Turn
pub mod Faults
pub mod Laws
