pub mod ListedCuts
pub mod Solutions
pub mod InputNumbers
pub mod GuessNumbers
pub mod ChosenEnds
pub mod Suspecting
