pub mod Unplaced
pub mod SmallNumbers
pub mod PrintedAgain
