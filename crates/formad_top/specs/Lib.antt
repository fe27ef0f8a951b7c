pub mod Headline
pub mod Top
