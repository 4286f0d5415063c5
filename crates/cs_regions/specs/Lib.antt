pub mod Spaces
pub mod Numbering
