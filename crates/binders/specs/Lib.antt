pub mod Enter
pub mod Leave
pub mod Laws
