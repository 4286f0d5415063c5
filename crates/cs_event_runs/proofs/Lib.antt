pub mod Firsts
pub mod Lefts
pub mod EventLaws
pub mod Pendings
pub mod CellsThatMatter
pub mod LaterGuesses
pub mod OwnGuesses
