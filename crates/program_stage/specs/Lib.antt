pub mod Accepted
pub mod Lexing
pub mod Lines
pub mod Names
pub mod Parsing
pub mod Programs
pub mod Typing
