pub mod State
pub mod Read
pub mod Lists
pub mod Lambda
pub mod Visit
pub mod Run
pub mod Bare
