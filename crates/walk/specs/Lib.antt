pub mod Bound
pub mod Contract
pub mod Marks
pub mod Laws
