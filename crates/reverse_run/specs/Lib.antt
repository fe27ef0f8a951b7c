pub mod Undoing
pub mod Flatness
