pub mod Waited
pub mod Sounds
