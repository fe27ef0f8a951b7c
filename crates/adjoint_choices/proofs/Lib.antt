pub mod Growing
pub mod Together
mod Rows
