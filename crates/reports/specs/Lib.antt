pub mod Apart
pub mod Counts
pub mod Requests
pub mod Sharing
