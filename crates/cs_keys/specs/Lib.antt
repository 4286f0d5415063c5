pub mod Live
pub mod Words
pub mod Runs
pub mod Laws
