pub mod Flags
pub mod Part
pub mod Laws
