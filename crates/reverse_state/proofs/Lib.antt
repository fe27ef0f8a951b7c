pub mod Taken
pub mod Summing
pub mod Stepping
pub mod Placing
pub mod Joining
