pub mod Calls
pub mod Causes
pub mod Files
pub mod MemFiles
pub mod MemTaken
pub mod States
