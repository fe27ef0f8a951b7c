pub mod Arounds
mod Examples
pub mod Making
pub mod Opening
pub mod Terms
