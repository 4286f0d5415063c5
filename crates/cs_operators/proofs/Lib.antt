pub mod Checking
pub mod Checks
mod Asked
mod Comparing
mod Looking
mod Objects
mod Operating
mod Relations
mod SeenPointers
mod Numerals
mod Sums
mod Tests
pub mod Computed
mod Converting
pub mod Using
