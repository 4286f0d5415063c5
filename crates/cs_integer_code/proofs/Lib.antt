pub mod WellFormedIntegers
