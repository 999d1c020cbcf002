mod Holes
mod Moments
mod Received
