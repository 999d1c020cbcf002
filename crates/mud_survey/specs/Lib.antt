pub mod Ways
pub mod Survey
pub mod Table
pub mod Json
pub mod Answer
pub mod inner
