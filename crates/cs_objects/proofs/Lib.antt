pub mod Nested
pub mod PartOffsets
pub mod Pushing
pub mod Searching
pub mod StatementForms
pub mod Statics
pub mod Written
