pub mod Steps
pub mod Collections
pub mod Places
pub mod Visits
pub mod Tickets
pub mod Acts
