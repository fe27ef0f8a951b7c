pub mod Lists
pub mod NameReads
pub mod Spreads
pub mod Mentioned
pub mod Layouts
pub mod PlacedNames
pub mod Setups
pub mod Assigning
pub mod Trees
pub mod Turning
pub mod Rounding
pub mod Stating
pub mod Programs
pub mod Transposing
pub mod LoopNumbers
pub mod Collecting
mod Examples
pub mod Inactive
