mod Judging
mod Parting
mod Telling
