pub mod Affine
pub mod Interval
pub mod Line
pub mod RangeSet
