pub mod Alike
pub mod Expansion
pub mod Examples
pub mod Sequences
