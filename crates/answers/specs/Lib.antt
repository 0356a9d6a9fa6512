pub mod Answer
pub mod Lent
pub mod Noted
pub mod Clear
pub mod Laws
