pub mod Steps
pub mod Texts
pub mod StepLines
pub mod Lines
