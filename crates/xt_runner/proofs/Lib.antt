mod Nexts
mod Starts
mod Passed
mod Globals
mod Onwards
