pub mod MachineStates
pub mod States
