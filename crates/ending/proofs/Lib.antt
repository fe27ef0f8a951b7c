pub mod Answers
pub mod Done
pub mod Follow
pub mod Laws
pub mod Pieces
pub mod Takes
