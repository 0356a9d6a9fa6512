pub mod Contract
pub mod Lets
pub mod Lambdas
pub mod Laws
