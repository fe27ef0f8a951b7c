pub mod Terms
pub mod Turning
pub mod Walked
pub mod Lists
pub mod Trees
pub mod Scenes
pub mod Loops
mod Examples
