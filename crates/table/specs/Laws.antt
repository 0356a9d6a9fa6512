pub mod Layout
pub mod Leaves
pub mod Part
pub mod Region
