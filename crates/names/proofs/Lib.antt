pub mod KnownCase
pub mod ReadCase
pub mod RuleCase
pub mod DoesCase
pub mod TakenCase
pub mod DefineCase
