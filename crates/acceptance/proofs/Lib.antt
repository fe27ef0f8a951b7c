pub mod Divisors
pub mod Pairs
pub mod Seens
pub mod NumberedItems
pub mod Lines
pub mod ElementForms
pub mod InnerRuns
pub mod LinesOf
