pub mod LentCells
pub mod LentBytes
