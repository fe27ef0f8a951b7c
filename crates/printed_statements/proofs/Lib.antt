pub mod Marks
pub mod ReadLines
