pub mod Choosing
pub mod Shown
