pub mod Building
mod Samples
pub mod Alike
pub mod Acting
pub mod Related
pub mod Moving
mod Evaluated
mod Acted
pub mod Entered
mod Called
mod Chosen
mod Arriving
pub mod Landings
mod Breaking
mod Executed
mod Stored
mod Decided
mod Switched
mod Looped
mod Left
pub mod Simulating
pub mod Runs
mod Onward
mod OnwardCalls
mod Returning
mod Staying
pub mod Returned
pub mod Passing
pub mod Meeting
pub mod Keeping
mod Showing
pub mod Shown
pub mod Starting
pub mod Cases
pub mod ShownStatements
pub mod ReadOff
pub mod Fitting
pub mod Choosing
pub mod AddedPoints
pub mod Pieces
mod Unreached
mod Reported
mod FirstInstructions
mod Touched
mod PointsAtSpots
mod LawsOfRuns
mod Endless
pub mod SpotStates
mod PointTouches
mod FrameSteps
mod LeavingPoints
mod FollowingFlow
mod FollowingToo
