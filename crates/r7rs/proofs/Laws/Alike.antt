pub mod Values
pub mod Relation
pub mod Step
pub mod Runs
