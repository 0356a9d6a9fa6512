-- Ids in order: of two records that have one, the later one's lies above, where ids rise, or below, where they fall.
use Rattle.std.specs.Prelude.{ℕ, ◌<◌, List, Bool, true, false, length}
use Rattle.tree.specs.Record.{records, nth}

-- y lies beyond x
abbrev pub Beyond : Bool → ℕ → ℕ → Type 0
Beyond true x y = x < y
Beyond false x y = y < x

-- 0 is no id
pub record InOrder (rising : Bool) (rs : List ℕ) : Type 0 where
  pub is : (i j : ℕ) → i < j → j < length (records rs) → 0 < (nth rs i).id → 0 < (nth rs j).id → Beyond rising (nth rs i).id (nth rs j).id
