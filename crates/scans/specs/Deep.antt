-- The first record nested too deep.
use Rattle.std.specs.Prelude.{ℕ, List, Bool, ltb, Option}
use Rattle.tree.specs.Record.{Record}
use Rattle.tree.specs.Place.{Open, Placed, placed}
use Rattle.tree.specs.First.{first}

abbrev pub is_deep : Placed → Bool
is_deep p = ltb 64 p.nesting

-- the first of the records l nested too deep, where s is open
abbrev pub first_deep : List Open → List Record → Option ℕ
first_deep s l = first is_deep (placed s l)
