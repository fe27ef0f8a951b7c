pub mod Joining
pub mod Bounds
pub mod Iterating
pub mod Turning
pub mod Choosing
