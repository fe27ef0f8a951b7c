pub mod Views
pub mod Classes
pub mod Terms
pub mod Numbers
pub mod Infos
