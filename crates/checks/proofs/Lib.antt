pub mod Holding
pub mod Tops
pub mod Listing
pub mod Standing
pub mod Sweeping
pub mod Order
