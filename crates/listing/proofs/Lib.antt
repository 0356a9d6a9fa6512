pub mod Rows
pub mod Tables
pub mod Runs
pub mod Inputs
