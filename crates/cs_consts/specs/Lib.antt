pub mod Constants
pub mod Operands
pub mod Typing
pub mod Roles
pub mod Rows
