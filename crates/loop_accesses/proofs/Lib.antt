pub mod Terms
pub mod Paths
pub mod Walks
pub mod Views
pub mod Scopes
