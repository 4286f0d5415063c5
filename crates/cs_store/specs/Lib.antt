pub mod Contents
pub mod Listings
pub mod Held
pub mod Writes
