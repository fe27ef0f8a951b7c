pub mod Arounds
pub mod Chains
pub mod Making
pub mod Nesting
pub mod Stores
