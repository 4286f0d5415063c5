pub mod Nexts
pub mod Points
