pub mod Banks
pub mod Causes
pub mod Leaves
pub mod Shown
