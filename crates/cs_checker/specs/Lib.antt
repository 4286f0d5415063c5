pub mod Faults
pub mod Answers
pub mod Asked
pub mod Kinds
