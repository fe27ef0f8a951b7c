pub mod Blocks
pub mod Unlined
