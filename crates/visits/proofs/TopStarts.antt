-- The table of where trees start, from a place of it on.
use Prim.Native.Nat.{ℕ, ◌+◌, ◌<◌}
use mathlib.Core.List.{List, ◌∷◌}
use mathlib.Core.Path.{◌≡◌, ap, sym, ◌∙◌}
use native.Mathlib.Omega.{arith}
use lib.ListN.{length, get_or, drop, length-drop}
use lib.Seq.{get_or-drop, drop-drop}
use Rattle.tree.specs.Tree.{Tree, Trees, nil, cons, size}
use Rattle.tree.specs.Starts.{starts, StartsWith}

-- a number, then others
module _ (table : List ℕ) (i : ℕ) {at : ℕ} {l : List ℕ} (e : StartsWith (drop i table) (at ∷ l)) where
  number : (i < length table) × (get_or table i 0 ≡ at)
  number =
      let here : get_or table i 0 ≡ get_or (drop i table) 0 0 = ap (λ (j : ℕ). get_or table j 0) (omega arith) ∙ sym (get_or-drop i table 0 0) in
      (omega (arith, length-drop i table, ap length e.is), here ∙ ap (λ (l : List ℕ). get_or l 0 0) e.is)

  others : StartsWith (drop (i + 1) table) l
  others = record { rest = e.rest; is = sym (drop-drop 1 i table) ∙ ap (drop 1) e.is }

-- the place is one of the table, and tells the record at which the trees start
pub first-start : (table : List ℕ) (i at : ℕ) (us : Trees) → StartsWith (drop i table) (starts at us) → (i < length table) × (get_or table i 0 ≡ at)
unfolding starts
first-start table i at nil e = number table i e
first-start table i at (cons t us) e = number table i e

-- the next place tells it of the trees after the first
pub later-starts : (table : List ℕ) (i at : ℕ) (t : Tree) (us : Trees) → StartsWith (drop i table) (starts at (cons t us))
    → StartsWith (drop (i + 1) table) (starts (at + size t) us)
unfolding starts
later-starts table i at t us e = others table i e
