pub mod Told
pub mod Factors
