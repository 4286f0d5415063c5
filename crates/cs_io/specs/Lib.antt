pub mod Count
pub mod Reported
pub mod FaultPlan
pub mod MemSource
pub mod SureSink
pub mod MemSink
pub mod StdSink
