pub mod Sources
pub mod Marching
