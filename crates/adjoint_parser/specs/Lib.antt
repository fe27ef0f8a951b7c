pub mod AdjointGrammar
pub mod AdjointReading
pub mod Parsed
pub mod ReadableText
pub mod Refuses
pub mod Trees
