pub mod Runs
pub mod Tangents
pub mod Sweeps
