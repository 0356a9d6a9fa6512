pub mod Answer
pub mod Leaves
pub mod Private
