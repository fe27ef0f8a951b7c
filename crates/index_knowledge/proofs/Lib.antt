mod Paths
pub mod FactLists
pub mod PairLists
mod Examples
