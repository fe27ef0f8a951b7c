pub mod Quotients
pub mod Bounding
pub mod Running
pub mod Iterating
pub mod Turning
pub mod Undone
pub mod Flatness
mod Examples
