pub mod AtSpots
