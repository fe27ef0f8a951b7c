pub mod Cut
pub mod Fit
pub mod Marks
pub mod ReadBlocks
pub mod ReadEnds
pub mod Steps
