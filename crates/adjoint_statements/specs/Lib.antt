pub mod AdjointStmtGrammar
pub mod AdjointStmtReading
pub mod Inner
pub mod Rooms
pub mod Trees
