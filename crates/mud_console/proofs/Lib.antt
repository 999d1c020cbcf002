mod Parts
mod Numbers
