pub mod FactForms
pub mod Sound
pub mod Same
pub mod DecidedLines
pub mod Gcds
pub mod DecidedCloses
pub mod Stating
mod Examples
