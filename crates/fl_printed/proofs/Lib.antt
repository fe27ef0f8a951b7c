pub mod ExpressionRules
pub mod Folded
pub mod Lexed
pub mod Operators
pub mod ReadExpressions
pub mod ReadUpdates
pub mod Signs
pub mod Spelled
