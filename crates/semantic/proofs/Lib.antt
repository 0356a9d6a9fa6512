pub mod RowCase
pub mod AmendCase
pub mod ListEntryCase
