pub mod Texts
pub mod Order
pub mod Countdown
pub mod Answer
