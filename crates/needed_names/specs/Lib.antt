pub mod Reads
pub mod Terms
