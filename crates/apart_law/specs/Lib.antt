pub mod Spots
pub mod Bindings
pub mod Numbers
pub mod Laid
pub mod Apart
