pub mod Claims
pub mod Calls
pub mod Premises
pub mod References
pub mod Acceptance
pub mod Positions
