pub mod Reversing
pub mod Machine
