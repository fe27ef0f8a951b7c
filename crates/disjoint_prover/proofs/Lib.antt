pub mod LeastForms
pub mod GrownLines
pub mod FactCases
pub mod ShownForms
pub mod LeastReads
pub mod Tested
