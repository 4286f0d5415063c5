pub mod Locals
pub mod Statements
pub mod LabelNumbers
pub mod CaseNumbers
pub mod View
