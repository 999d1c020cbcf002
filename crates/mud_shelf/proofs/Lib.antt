mod Spelled
mod Moments
mod Volumes
mod Turns
mod Starts
