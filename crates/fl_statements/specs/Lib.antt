pub mod Branches
pub mod Inner
pub mod Limits
pub mod StmtGrammar
pub mod StmtReading
pub mod Terminals
pub mod Trees
pub mod Wide
