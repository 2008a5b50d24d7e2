pub mod Hex
pub mod Splits
pub mod Typed
pub mod Lists
