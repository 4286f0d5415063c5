pub mod Standing
pub mod Stopping
mod RowsOfTrees
mod Closings
mod Suffixes
mod Prefixes
mod TypedPrefixes
mod Looser
mod Heads
mod Joining
mod Sites
mod SitesOfLevels
mod SitesOfPrefixes
mod TypesInside
pub mod WordsBegun
pub mod SitesOfWords
mod SitesOfChains
mod SitesOfRows
mod SitesOfTypes
mod EndOfInput
mod Answering
mod LastTokens
mod Telling
mod SitesOfReasons
mod PlacedNodes
mod TagPlaces
mod SitesOfPlaces
