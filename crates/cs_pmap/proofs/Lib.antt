pub mod SortedEntries
pub mod AtBranch
pub mod Rotated
pub mod Stack
pub mod FiniteMap
pub mod Spliced
pub mod PutAll
