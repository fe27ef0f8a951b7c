pub mod Lists
pub mod Extras
pub mod First
pub mod Texts
pub mod Whole
pub mod Small
