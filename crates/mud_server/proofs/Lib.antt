mod Same
mod Chained
mod Settled
mod Taken
