pub mod Team
pub mod Listed
