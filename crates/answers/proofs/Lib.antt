pub mod Work
pub mod SetLengths
