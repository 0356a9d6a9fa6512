pub mod Zeroed
pub mod Start
pub mod Left
pub mod Lengths
pub mod Told
