pub mod ChangedParts
pub mod FunctionAgain
pub mod FunctionNumbers
pub mod ParameterTypes
pub mod PlacedFunctions
