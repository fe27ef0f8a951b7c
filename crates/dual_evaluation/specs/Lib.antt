pub mod Answers
pub mod Assignments
