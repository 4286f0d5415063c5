pub mod Passing
pub mod EarlierGuesses
pub mod Replays
pub mod Samples
