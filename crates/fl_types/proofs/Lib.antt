pub mod Lists
pub mod Increments
pub mod Classes
