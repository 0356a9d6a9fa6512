pub mod Tells
pub mod Sound
pub mod Limits
pub mod ToCome
pub mod Deep
pub mod Private
