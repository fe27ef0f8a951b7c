pub mod Reaching
pub mod Same
mod Small
