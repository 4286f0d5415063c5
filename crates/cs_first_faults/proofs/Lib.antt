pub mod Firsts
pub mod Operators
pub mod Between
pub mod Calls
pub mod Expressions
pub mod Names
pub mod Types
pub mod Initials
pub mod Objects
pub mod Statements
pub mod Files
pub mod Laws
mod Samples
