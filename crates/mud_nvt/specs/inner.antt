pub mod Lines
pub mod Machine
pub mod Telnet
