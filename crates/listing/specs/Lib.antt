pub mod Listing
pub mod Fits
pub mod Left
pub mod Answered
pub mod Laws
