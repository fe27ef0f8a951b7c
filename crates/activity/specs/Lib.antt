pub mod Active
pub mod Order
