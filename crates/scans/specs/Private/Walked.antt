-- What the walk of a tree answers. The tree stands at record `at` of l, at the nesting level; s is whatever is open before it.
use Rattle.std.specs.Prelude.{ℕ, suc, ◌≤◌, ◌<◌, List, ◌≡◌, length, drop, None, Some, Result, Ok, Err}
use Rattle.tree.specs.Record.{Record}
use Rattle.tree.specs.Place.{Open, closed, taken}
use Rattle.tree.specs.First.{on}
use Rattle.scans.specs.Deep.{first_deep}
use Rattle.scans.specs.declared.nest.Stop.{Stop}
use Rattle.scans.specs.declared.nest.Stop.TheVariants.{Deep, Ended}

-- the tree ends before record `next`, with none nested too deep: what is to be found is found after it
pub record Passed (l : List Record) (at level next : ℕ) : Type 0 where
  pub some : at < next
  pub within : next ≤ length l
  pub rest : (s : List Open) → suc (length s) ≡ level → on at (first_deep s (drop at l)) ≡ on next (first_deep (closed (taken s)) (drop next l))

-- record i of it is the first nested too deep
pub record DeepAt (l : List Record) (at level i : ℕ) : Type 0 where
  pub within : i < length l
  pub here : (s : List Open) → suc (length s) ≡ level → on at (first_deep s (drop at l)) ≡ Some i

-- the records end within the tree, none nested too deep
pub record EndsFirst (l : List Record) (at level : ℕ) : Type 0 where
  pub none : (s : List Open) → suc (length s) ≡ level → on at (first_deep s (drop at l)) ≡ None

abbrev pub Walked : List Record → ℕ → ℕ → Result ℕ Stop → Type 0
Walked l at level (Ok next) = Passed l at level next
Walked l at level (Err (Deep i)) = DeepAt l at level i
Walked l at level (Err Ended) = EndsFirst l at level
