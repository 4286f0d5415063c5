pub mod WellAllocated
