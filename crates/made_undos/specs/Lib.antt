pub mod Reductions
pub mod UndoScopes
