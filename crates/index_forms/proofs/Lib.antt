pub mod Ints
pub mod AtomOrder
pub mod Worths
mod Ends
mod TermPlaces
mod Seens
mod Added
mod Parts
mod Origins
mod Linears
mod NodeForms
mod Groups
mod WrittenNames
mod Terms
mod Walks
mod KnownNames
mod Examples
mod LoopExamples
