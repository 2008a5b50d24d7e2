pub mod HexSteps
pub mod WordsAt
pub mod Places
pub mod Tidied
pub mod Pieces
pub mod Listings
