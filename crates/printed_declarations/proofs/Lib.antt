pub mod DeclMarks
pub mod ReadDecls
pub mod ReadDims
