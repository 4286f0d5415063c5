pub mod EntryRuns
pub mod Coming
pub mod Explorations
