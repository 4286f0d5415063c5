pub mod Keys
pub mod Regions
pub mod Leaves
pub mod EntryLists
pub mod InUse
pub mod Same
pub mod Listings
