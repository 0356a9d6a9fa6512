pub mod Write
pub mod Count
pub mod Told
