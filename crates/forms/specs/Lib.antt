pub mod Contract
pub mod Calls
