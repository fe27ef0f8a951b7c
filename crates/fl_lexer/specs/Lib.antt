pub mod Bytes
pub mod Pieces
pub mod Lines
pub mod Reading
pub mod Spelling
pub mod Placement
pub mod Refusals
pub mod Printing
