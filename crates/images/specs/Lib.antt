pub mod Layout
pub mod Images
pub mod Faults
pub mod First
pub mod Surveys
pub mod Words
pub mod Writing
pub mod Opening
