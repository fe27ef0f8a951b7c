pub mod Small
pub mod Trios
pub mod RunTrios
pub mod LawProofs
pub mod Reported
pub mod Powers
pub mod RunsByKeys
pub mod Variables
pub mod ByKeys
mod Accessed
mod Lines
mod Loops
mod Sums
mod Mixed
mod Outer
pub mod Replays
mod Stores
mod Collapsed
pub mod Reducing
mod Bytes
pub mod Widely
pub mod StopsReduced
pub mod Quiet
pub mod LogFold
pub mod TrapProofs
pub mod Everywhere
pub mod Once
pub mod Touching
pub mod Gives
pub mod Placing
pub mod KindsOfValues
pub mod ValuesFit
pub mod RunsFit
pub mod Contents
pub mod Storing
pub mod Soundly
pub mod FittingProofs
mod Fitted
pub mod Entries
pub mod NamesOfKinds
pub mod Laying
pub mod GroupReadings
pub mod RightSides
pub mod GroupPieces
pub mod GroupTouching
pub mod Layouts
pub mod Parts
