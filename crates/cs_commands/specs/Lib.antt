pub mod Refusals
pub mod Replays
pub mod Flows
pub mod Results
