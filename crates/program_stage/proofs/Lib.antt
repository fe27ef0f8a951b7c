pub mod NamesLaws
pub mod ProgramDone
pub mod Typing
