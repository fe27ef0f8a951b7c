pub mod Stops
pub mod Runs
pub mod Given
pub mod Done
