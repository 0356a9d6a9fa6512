pub mod First
pub mod Telling
pub mod Limiting
pub mod Search
pub mod Places
pub mod Naming
mod Missing
mod Nesting
mod Repeated
mod Ordered
mod Chaining
