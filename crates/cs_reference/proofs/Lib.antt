pub mod ExpressionForms
pub mod Functions
pub mod Remaining
