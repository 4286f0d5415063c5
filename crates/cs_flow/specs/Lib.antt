pub mod LabelView
pub mod PointView
pub mod SwitchView
pub mod TargetView
pub mod WholeFlows
