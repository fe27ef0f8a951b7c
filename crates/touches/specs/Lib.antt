pub mod Touching
