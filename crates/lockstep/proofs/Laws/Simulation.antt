-- Demand 3: the slot machine, which goes by the facts, and the plain machine stay in step. The theorem is in Main. Its parts, in order:
pub mod Lists
-- where the names of a tree and of a body stand
pub mod Ids
pub mod Binders
pub mod Scope
-- how the machines stand to each other, what is presumed of the names, and that it outlives each change of store and frame
pub mod Relation
pub mod Mono
pub mod Read
pub mod Frames
pub mod Bodies
pub mod Sets
pub mod Depths
-- one moment, and n
pub mod Enter
pub mod Calls
pub mod Puts
pub mod Give
pub mod Step
-- what the relation comes to in the claim's words
pub mod Meant
pub mod Observe
pub mod Main
