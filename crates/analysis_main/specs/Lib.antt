pub mod Tried
pub mod Filled
pub mod Lengths
