pub mod Held
pub mod Rows
pub mod Size
pub mod Map
