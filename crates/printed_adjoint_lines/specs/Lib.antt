pub mod AdjointLines
