pub mod Powers
pub mod Walking
