pub mod Rows
pub mod Longer
