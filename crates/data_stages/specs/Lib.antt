pub mod Faults
pub mod Files
pub mod Later
pub mod Layouts
pub mod Lines
