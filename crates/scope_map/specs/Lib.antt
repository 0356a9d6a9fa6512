pub mod ScopeMap
pub mod Map
pub mod Rows
pub mod Hints
pub mod Held
