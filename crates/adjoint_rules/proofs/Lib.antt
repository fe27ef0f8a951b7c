pub mod Small
mod Lines
mod Squares
mod Loops
mod Heads
