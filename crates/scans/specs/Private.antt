-- What the private functions promise.
pub mod Walked
pub mod Seen
pub mod InOrder
pub mod Chain
