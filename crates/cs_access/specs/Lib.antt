pub mod Subjects
pub mod Checks
pub mod Numbers
pub mod Offsets
pub mod Kinds
