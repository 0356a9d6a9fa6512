pub mod Facts
pub mod Rules
pub mod Contract
pub mod Steps
pub mod Laws
