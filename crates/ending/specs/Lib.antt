pub mod Ends
pub mod Numbers
pub mod Plan
pub mod Stage
pub mod Verdicts
