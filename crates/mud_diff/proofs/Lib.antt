mod Found
mod Objects
mod Same
mod Texts
mod Deciding
