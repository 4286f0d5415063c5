pub mod IntegerFunctions
