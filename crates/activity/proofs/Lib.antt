pub mod Parts
pub mod Between
pub mod Ordered
