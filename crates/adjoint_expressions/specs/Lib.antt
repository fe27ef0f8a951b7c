pub mod AdjointGrammar
pub mod AdjointReading
pub mod NestsAdjoint
pub mod Trees
