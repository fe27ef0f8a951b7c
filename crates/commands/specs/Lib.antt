pub mod Done
pub mod Plans
pub mod Tangents
pub mod Unbuilt
