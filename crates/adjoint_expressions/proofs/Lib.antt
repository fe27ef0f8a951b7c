pub mod AdjointExprs
pub mod Levels
