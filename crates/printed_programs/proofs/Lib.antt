pub mod ReadUnits
pub mod UnitMarks
