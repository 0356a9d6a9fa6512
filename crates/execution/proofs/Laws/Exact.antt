-- Refusals 9 and 10 of the fresh run, and 11 and 12 of the settled, are those that R7RS's walk gives. The theorems are in Nine, Ten and Second.
-- 9: the live names are the names in scope
pub mod Scope
pub mod Visits
pub mod Nine
-- 10: a name's captured flag says that an inner mention came before, so the lists are as long as the walk counts
pub mod Seen
pub mod Plain
pub mod Captured
pub mod Counts
pub mod Places
pub mod Tens
pub mod Ten
-- 11 and 12: by what the second run notes (Settled)
pub mod Second
