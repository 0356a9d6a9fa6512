pub mod Live
pub mod Further
pub mod Opens
pub mod Visited
pub mod Parts
pub mod Leaves
pub mod Tops
pub mod Runs
