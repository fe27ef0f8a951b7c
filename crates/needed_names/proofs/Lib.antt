pub mod Joined
pub mod Gathered
pub mod Rest
pub mod Linked
pub mod Parts
pub mod Leaves
pub mod Found
