pub mod Facts
pub mod Slot
pub mod Lock
