pub mod Simulation
pub mod SameRecord
pub mod Examples
