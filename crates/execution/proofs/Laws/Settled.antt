-- The second run: what the first leaves in the tables, and what the second makes of it. The theorems are in BindingSettled and Exact/Second.
-- The first run leaves, of each let and lambda, the flags of its names at its end, and of each lambda its captured list (`Kept`)
pub mod Listed
pub mod Tables
pub mod Kept
pub mod Ending
pub mod Parts
pub mod Keeping
pub mod Script
-- On entering a lambda the second run makes a capture of each entry of its list, with offsets
pub mod Layer
pub mod Numbered
pub mod Offsets
-- What a second visit finds (`Again`), what the rows are to tell (`Told`), which reads are refused (`Refused`, `Refuses`)
pub mod Again
pub mod Told
pub mod Unsaid
pub mod Refused
pub mod Rereads
pub mod Reading
pub mod Reentering
pub mod Refuses
pub mod Rebodies
pub mod Releaving
pub mod Bounded
-- The visits
pub mod Did
pub mod Reforms
pub mod Joined
pub mod Second
pub mod Rescript
-- R7RS's walk alone: the uses by each lambda's end, the events of a lambda, the names in scope
pub mod Walked
pub mod Zones
pub mod Bounds
pub mod Nested
-- Together
pub mod Whole
