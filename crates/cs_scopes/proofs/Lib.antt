pub mod Lifting
pub mod DeclaredNames
pub mod ScalarCounts
pub mod ArraySizes
pub mod LesserCodes
pub mod LastStars
pub mod PartsByNumber
