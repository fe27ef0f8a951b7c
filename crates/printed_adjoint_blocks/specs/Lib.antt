pub mod AdjointUnlined
pub mod AdjointBlocks
