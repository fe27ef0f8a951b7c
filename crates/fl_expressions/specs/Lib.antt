pub mod ExprGrammar
pub mod ExprReading
pub mod Nests
pub mod Terminals
pub mod Trees
pub mod Wide
