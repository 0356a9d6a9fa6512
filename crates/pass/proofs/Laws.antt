pub mod Scripts
pub mod AndWhenUnless
pub mod Pinned
