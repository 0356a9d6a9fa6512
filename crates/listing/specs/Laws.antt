pub mod Fits
pub mod Left
pub mod Printed
pub mod Scripts
