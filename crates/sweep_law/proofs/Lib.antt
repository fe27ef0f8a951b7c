pub mod Combining
pub mod Evaluated
pub mod Standing
