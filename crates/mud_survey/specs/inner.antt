pub mod Marks
pub mod Trailed
pub mod Tests
pub mod Meant
