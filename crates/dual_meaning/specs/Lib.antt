pub mod Counted
pub mod Running
pub mod Runs
pub mod Tangents
