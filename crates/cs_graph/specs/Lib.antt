pub mod Waiting
pub mod Contents
pub mod Sound
pub mod Adding
