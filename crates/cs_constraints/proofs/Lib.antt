pub mod Assuming
pub mod Declared
pub mod PreparedTerms
