pub mod Back
pub mod Outcomes
pub mod Records
pub mod Tables
pub mod Refusals
pub mod Positions
