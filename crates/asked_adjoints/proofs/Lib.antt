pub mod Fair
pub mod Reached
pub mod Whole
