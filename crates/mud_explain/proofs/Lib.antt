pub mod Handing
pub mod Answering
pub mod Writing
