pub mod Numbered
pub mod Pairs
pub mod Forms
pub mod Sound
mod Examples
pub mod Either
