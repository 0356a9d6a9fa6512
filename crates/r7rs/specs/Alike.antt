-- What it is for the plain machine to run a tree and its expansion (document 02, order 7) alike. The theorem is in Runs.
use Rattle.std.specs.Prelude.{ℕ, map, ◌≡◌, option_map}
use Rattle.tree.specs.Tree.{Trees}
use Rattle.tree.specs.Expand.{expand, expands}
use Rattle.r7rs.specs.Machine.{ended, stopped, Cells}
use Rattle.r7rs.specs.Plain.{PVal, pconst, punit, pclo, Store, PMem, POut}
use Rattle.r7rs.specs.Run.{plain}

-- the value that the expansion has for a value: a procedure of the same record, parameters and environment has its body expanded
abbrev pub expand_value : PVal → PVal
expand_value (pconst c q) = pconst c q
expand_value punit = punit
expand_value (pclo i xs e ρ) = pclo i xs (expand e) ρ

abbrev pub LikeValue : PVal → PVal → Type 0
LikeValue v w = w ≡ expand_value v

-- cell by cell: both are unbound, or both hold like values
abbrev pub LikeCells : Cells PVal → Cells PVal → Type 0
LikeCells c d = (x : ℕ) → d x ≡ option_map expand_value (c x)

-- location by location: both are made for the same record
abbrev pub expand_location : ℕ × PVal → ℕ × PVal
expand_location p = (p.0, expand_value p.1)

abbrev pub LikeStore : Store → Store → Type 0
LikeStore σ τ = τ ≡ map expand_location σ

-- a run is over: it has ended, or stopped. The plain machine has no frame that a read or a set! could go outside of.
pub data Over : POut → Type 0 where
  has_ended_lem : {v : PVal} {m : PMem} → Over (ended v m)
  has_stopped_lem : Over stopped

-- both have ended, alike; or both have stopped
pub data Alike : POut → POut → Type 0 where
  ends : {v w : PVal} {m r : PMem} → LikeValue v w → LikeCells m.cells r.cells → LikeStore m.store r.store → Alike (ended v m) (ended w r)
  stops : Alike stopped stopped

-- Where one of the two runs is over, the other is too after some number of moments, alike: so neither goes on for ever where the other does not.
-- The numbers differ: records that the expansion adds make moments, and an and of one child makes none in it.
pub record RunAlike (ts : Trees) : Type 0 where
  pub forth : (n : ℕ) → Over (plain ts n).now → (k : ℕ) × Alike (plain ts n).now (plain (expands ts) k).now
  pub back : (k : ℕ) → Over (plain (expands ts) k).now → (n : ℕ) × Alike (plain ts n).now (plain (expands ts) k).now
