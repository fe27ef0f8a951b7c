pub mod Lexeme
pub mod Spans
pub mod Spelled
