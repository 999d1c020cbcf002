mod Numbers
mod Built
mod Parts
mod Spares
mod Reasons
