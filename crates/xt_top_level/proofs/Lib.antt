mod Elements
mod Labels
mod Steps
mod Turns
