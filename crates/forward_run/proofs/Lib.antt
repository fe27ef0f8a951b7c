pub mod Flat
pub mod Entering
pub mod Ending
pub mod Lasting
