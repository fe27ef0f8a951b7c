pub mod Dues
pub mod Ends
