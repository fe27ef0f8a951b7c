pub mod AdjointReadBack
