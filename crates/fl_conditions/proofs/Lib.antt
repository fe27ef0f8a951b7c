pub mod Conds
pub mod Examples
pub mod Levels
pub mod ReadableConds
