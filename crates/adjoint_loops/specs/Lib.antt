pub mod Further
pub mod Iterations
pub mod Fronts
