mod Going
mod Parts
mod Summing
mod Uses
