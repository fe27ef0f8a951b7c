pub mod Derivations
pub mod Surveys
pub mod Disjoint
pub mod Accepted
pub mod Tests
pub mod Plain
pub mod Laws
