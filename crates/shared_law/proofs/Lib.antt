pub mod Free
pub mod Reaching
pub mod Loops
pub mod Evaluated
pub mod Choices
pub mod Programs
pub mod Known
