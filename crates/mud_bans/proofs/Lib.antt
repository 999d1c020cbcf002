mod Unique
mod Places
