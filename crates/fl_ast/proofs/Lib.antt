pub mod SameLemmas
pub mod LengthLemmas
