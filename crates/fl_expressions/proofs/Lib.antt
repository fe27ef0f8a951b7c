pub mod Exprs
pub mod Holding
pub mod Levels
pub mod Opened
pub mod ReadableExprs
pub mod Turns
