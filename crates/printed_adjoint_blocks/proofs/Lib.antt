pub mod AdjointFit
pub mod AdjointSteps
pub mod AdjointTests
pub mod ReadAdjointBlocks
