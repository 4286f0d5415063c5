pub mod Parameters
pub mod Recorded
pub mod Exactness
