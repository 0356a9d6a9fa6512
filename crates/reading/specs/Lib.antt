pub mod Reading
pub mod Found
pub mod Leaves
pub mod Held
pub mod Reader
pub mod Input
pub mod Laws
