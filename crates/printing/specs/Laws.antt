pub mod Below
pub mod Numeral
pub mod Counts
pub mod Numbers
