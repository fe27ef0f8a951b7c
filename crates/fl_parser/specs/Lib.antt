pub mod DimGrammar
pub mod DimReading
pub mod Parsed
pub mod Refuses
pub mod Terminals
pub mod Trees
pub mod UnitGrammar
pub mod UnitReading
