pub mod Reverse
pub mod Adds
pub mod Counting
