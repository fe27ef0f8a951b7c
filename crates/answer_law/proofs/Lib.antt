pub mod Words
pub mod Opening
pub mod Reading
pub mod Answering
