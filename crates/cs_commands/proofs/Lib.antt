pub mod ReplayLemmas
