pub mod Works
pub mod CodeStates
pub mod ReplayerView
pub mod Ways
pub mod FrameChanges
pub mod RunLengths
