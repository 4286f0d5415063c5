pub mod HeldFiles
pub mod ShortFiles
pub mod PlacesAmong
pub mod FileTrees
