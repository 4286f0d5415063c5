mod FirstRules
pub mod Growing
mod Placed
