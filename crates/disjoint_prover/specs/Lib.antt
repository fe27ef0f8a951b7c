pub mod Aparts
pub mod FactRules
pub mod FormTests
pub mod Grown
pub mod ShownLines
pub mod Tested
