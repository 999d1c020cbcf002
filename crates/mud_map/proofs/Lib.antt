mod Reading
mod Joined
