pub mod Tail
pub mod Binding
pub mod Bottom
pub mod Machine
pub mod Steps
pub mod Plain
pub mod Run
pub mod Alike
