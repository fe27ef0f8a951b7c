pub mod AdjointFolded
pub mod AdjointRules
pub mod ReadAdjoints
pub mod AdjointUpdates
