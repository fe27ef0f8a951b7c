pub mod Disjointness
pub mod Texts
mod Examples
