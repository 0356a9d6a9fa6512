pub mod Contract
pub mod Numbered
pub mod Counts
pub mod Kept
