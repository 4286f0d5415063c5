pub mod Chains
pub mod Distinct
pub mod Exact
pub mod Noted
pub mod Sources
pub mod OwnRuns
pub mod Graphs
pub mod FoundFaults
