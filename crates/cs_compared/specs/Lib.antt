pub mod Wide
pub mod Agreement
pub mod Computable
pub mod Guessable
