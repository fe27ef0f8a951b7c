pub mod ExactDims
pub mod ReadableDims
pub mod Readables
pub mod Texts
pub mod Spans
pub mod Units
