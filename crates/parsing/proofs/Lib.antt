pub mod Exact
pub mod OnSymbols
pub mod Outcomes
pub mod Rules
pub mod Table
pub mod Whole
pub mod Grouped
