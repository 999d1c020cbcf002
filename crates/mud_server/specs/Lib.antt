pub mod MayBegin
pub mod Volumes
pub mod inner
