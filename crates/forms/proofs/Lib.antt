pub mod Heads
pub mod Trees
pub mod CallsCase
pub mod CallFacts
pub mod DefinesCase
pub mod ChildrenCase
