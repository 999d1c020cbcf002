pub mod CheckFaults
pub mod Desks
pub mod Seating
pub mod Answers
