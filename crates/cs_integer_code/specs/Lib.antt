pub mod IntegerCode
