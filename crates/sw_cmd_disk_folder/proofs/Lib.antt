mod Sorted
mod Steps
mod Folders
