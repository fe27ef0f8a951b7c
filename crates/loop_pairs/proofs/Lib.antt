pub mod Ranks
pub mod Forms
pub mod Loops
pub mod Typed
pub mod Surveys
pub mod Numbered
