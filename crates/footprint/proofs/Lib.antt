pub mod Pairs
pub mod Reading
pub mod Noting
pub mod Touching
pub mod Told
mod Examples
