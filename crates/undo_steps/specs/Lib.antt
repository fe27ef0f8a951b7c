pub mod UndoSteps
pub mod UndosStand
