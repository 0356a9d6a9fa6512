pub mod Entered
pub mod Idents
