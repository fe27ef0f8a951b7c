pub mod CondGrammar
pub mod CondReading
pub mod NestsConditions
pub mod Terminals
pub mod Trees
