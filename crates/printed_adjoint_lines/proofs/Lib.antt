pub mod ReadAdjointLines
