pub mod Flaws
pub mod Pairs
