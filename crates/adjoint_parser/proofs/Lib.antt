pub mod AddingAdjoints
pub mod AdjointTexts
pub mod AdjointUnits
pub mod ReadableAdjointExprs
pub mod ReadableAdjointStmts
pub mod ReadableAdjoints
