pub mod Tied
pub mod Rights
