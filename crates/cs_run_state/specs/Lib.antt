pub mod Choosing
pub mod MachineView
pub mod Returning
pub mod Storing
pub mod Updates
pub mod Visits
