pub mod Search
pub mod Write
pub mod Index
pub mod Sorted
pub mod Cases
pub mod Laws
