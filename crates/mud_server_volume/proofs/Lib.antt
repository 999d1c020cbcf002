pub mod Crosses
mod Deciding
