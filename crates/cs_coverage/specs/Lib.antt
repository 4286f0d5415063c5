pub mod OwnNumbers
pub mod Phases
pub mod Agreeing
pub mod Covering
pub mod IntegerEntries
pub mod Closing
pub mod Standing
pub mod Positions
