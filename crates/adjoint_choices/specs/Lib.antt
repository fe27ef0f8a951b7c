pub mod Choosing
pub mod Walked
pub mod Settings
