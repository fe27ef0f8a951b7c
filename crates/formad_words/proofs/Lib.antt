pub mod Cases
pub mod NamesRead
pub mod NumbersRead
pub mod Positions
pub mod SettingsRead
pub mod Shorts
