pub mod Rows
pub mod Numbers
pub mod Kinds
pub mod Marks
pub mod Decode
pub mod Leaves
