pub mod EnterCase
pub mod Names
pub mod NamesCase
pub mod EndsCase
pub mod ArgumentsCase
