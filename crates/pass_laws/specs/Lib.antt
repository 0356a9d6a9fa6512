pub mod Laws
pub mod Spread
pub mod Static
pub mod Stage
pub mod Sound
pub mod Visitable
