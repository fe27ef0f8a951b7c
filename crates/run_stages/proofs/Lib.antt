pub mod Answering
pub mod Counting
pub mod Ended
pub mod Forwarding
pub mod Finishing
pub mod Giving
