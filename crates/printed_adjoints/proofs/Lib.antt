pub mod ReadAdjointUnits
