pub mod DataFaults
pub mod Written
pub mod Directions
