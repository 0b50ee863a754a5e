mod Compiling
mod Clearing
