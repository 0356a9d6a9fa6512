pub mod Good
pub mod Lengths
