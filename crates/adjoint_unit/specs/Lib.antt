pub mod Privates
pub mod Adjoints
