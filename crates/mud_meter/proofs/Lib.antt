mod Waits
mod Through
mod Asked
mod Paid
