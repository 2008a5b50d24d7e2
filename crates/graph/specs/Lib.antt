pub mod Graphs
pub mod Places
pub mod Checks
pub mod Theorems
pub mod Examples
