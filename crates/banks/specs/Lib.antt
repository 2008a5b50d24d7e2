pub mod Open
pub mod Packed
