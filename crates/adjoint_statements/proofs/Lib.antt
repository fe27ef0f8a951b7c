pub mod IfExact
pub mod Levels
pub mod LineExact
pub mod StmtExact
pub mod Widths
