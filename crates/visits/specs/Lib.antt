pub mod Contract
pub mod Lent
pub mod Runs
pub mod Tops
