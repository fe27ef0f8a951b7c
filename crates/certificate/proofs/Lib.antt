pub mod Cuts
pub mod Decimals
mod Examples
pub mod Items
pub mod NumbersRead
pub mod PrintedBack
pub mod ReadLines
pub mod WordsBack
