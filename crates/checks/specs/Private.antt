-- What the private functions promise.
pub mod Order
pub mod Clear
pub mod Held
