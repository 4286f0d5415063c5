pub mod Candidates
pub mod Places
pub mod ListedGuesses
pub mod Meetings
pub mod Spots
pub mod Finding
pub mod Named
pub mod Reality
