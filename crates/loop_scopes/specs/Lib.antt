pub mod Loops
pub mod Scopes
