pub mod Examples
pub mod Split
pub mod Flats
pub mod Keys
pub mod Places
pub mod Reading
pub mod Tangents
pub mod PowerFits
pub mod Spreading
pub mod Bounds
pub mod ValueKinds
pub mod Calculus
pub mod Taping
pub mod Plain
pub mod Increments
pub mod Sizes
pub mod Stills
pub mod Kept
pub mod Runs
pub mod Undone
pub mod Clears
pub mod Rounds
pub mod Privates
pub mod Heads
pub mod Nesting
pub mod Iterations
pub mod Parallel
pub mod Whole
pub mod Transposed
mod Premises
pub mod Squares
pub mod Words
pub mod Collections
pub mod PlainLogs
pub mod Passing
pub mod Orderly
pub mod Meeting
mod WithPrivate
mod WithNested
mod WithCollapsed
mod WithUnset
pub mod WholePrograms
pub mod RoundFacts
pub mod Fits
pub mod WellKinded
