pub mod Rule
pub mod Claims
pub mod Moves
pub mod Seats
pub mod Alone
pub mod Reached
