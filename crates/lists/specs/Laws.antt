pub mod Sets
pub mod Live
pub mod Given
pub mod Bottom
pub mod Counting
pub mod Held
