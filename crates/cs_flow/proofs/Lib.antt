pub mod FlowsSoFar
pub mod LabelsInPlace
pub mod RowsFromTheEnd
pub mod SwitchWays
