pub mod Acting
pub mod Deciding
