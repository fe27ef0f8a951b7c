pub mod Located
pub mod Counts
pub mod Forms
pub mod Numeric
