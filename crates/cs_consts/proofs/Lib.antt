pub mod Productions
pub mod ProductionRows
pub mod RowsSoFar
pub mod SingleParts
pub mod Heights
pub mod TestedTypes
