pub mod Numeral
pub mod Text
pub mod Puts
pub mod Numbers
pub mod Counts
pub mod Laws
