pub mod AtomCase
