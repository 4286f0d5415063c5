pub mod Reaching
mod Loading
mod Storing
mod Working
mod Fetching
mod LoadedWork
mod Branching
mod Assigning
mod Updating
mod Dispatching
