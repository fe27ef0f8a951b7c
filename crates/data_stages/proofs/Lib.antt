pub mod DataDone
pub mod Found
