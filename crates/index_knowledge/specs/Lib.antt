pub mod Knowledge
pub mod Told
