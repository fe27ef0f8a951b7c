mod Filters
mod Loops
