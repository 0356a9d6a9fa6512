pub mod Reads
pub mod Counts
pub mod Laws
