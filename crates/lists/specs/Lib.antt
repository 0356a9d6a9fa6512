pub mod Contract
pub mod Rewrites
pub mod Order
pub mod Index
pub mod Given
pub mod Collected
pub mod Laws
