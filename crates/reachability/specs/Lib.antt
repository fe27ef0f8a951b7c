pub mod Reached
pub mod Named
