pub mod ConditionRules
pub mod ReadConditions
pub mod Relations
