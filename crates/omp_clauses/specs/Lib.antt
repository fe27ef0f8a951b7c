pub mod ClauseGrammar
pub mod ClauseReading
pub mod LineGrammar
pub mod LineReading
pub mod Once
pub mod Refused
pub mod Said
pub mod Terminals
