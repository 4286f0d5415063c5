pub mod Codes
pub mod Constraints
pub mod Prepared
pub mod Sets
pub mod SetWords
