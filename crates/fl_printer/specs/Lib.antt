pub mod Layout
pub mod Lexemes
pub mod Rows
pub mod Small
pub mod Text
pub mod Words
