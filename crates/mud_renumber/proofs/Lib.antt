mod Texts
mod Compared
mod Stays
