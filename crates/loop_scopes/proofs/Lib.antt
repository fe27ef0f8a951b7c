pub mod Nesting
pub mod Opening
pub mod Scopes
pub mod Sets
