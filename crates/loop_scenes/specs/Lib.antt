pub mod Views
pub mod Inner
pub mod Loops
pub mod Turns
pub mod Scened
pub mod Rights
pub mod Marks
