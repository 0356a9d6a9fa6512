pub mod Places
pub mod Spared
pub mod Turn
pub mod Bytes
pub mod Ends
pub mod Loans
