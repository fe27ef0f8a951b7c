pub mod ResolvedExprs
pub mod SlotTables
pub mod ResolvedStmts
pub mod ResolveAnswers
