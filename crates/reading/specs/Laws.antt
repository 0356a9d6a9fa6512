pub mod Input
pub mod Leaves
pub mod Line
pub mod Lost
pub mod Numbers
pub mod Read
pub mod RoundTrip
pub mod Samples
