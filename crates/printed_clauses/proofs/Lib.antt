pub mod Apart
pub mod Listed
pub mod ReadClauses
pub mod ReadDirectives
pub mod Steps
pub mod Written
