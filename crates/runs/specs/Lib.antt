pub mod Plain
pub mod Sound
pub mod Kept
pub mod Worlds
pub mod Law
pub mod Scripts
pub mod Rigs
pub mod Replays
