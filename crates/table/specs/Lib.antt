pub mod Layout
pub mod Leaves
pub mod Region
pub mod Laws
