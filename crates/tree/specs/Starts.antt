-- Where the trees of a script start in its records.
use Rattle.std.specs.Prelude.{ℕ, ◌+◌, List, [], ◌∷◌, ◌++◌, ◌≡◌}
use Rattle.tree.specs.Tree.{Trees, nil, cons, size}
use Rattle.tree.specs.Accepted.{Accepted}

-- the record at which each of the trees starts, the first at this one; and last the record after them all
unfoldable pub starts : ℕ → Trees → List ℕ
starts at nil = at ∷ []
starts at (cons t ts) = at ∷ starts (at + size t) ts

-- the table starts with these numbers
pub record StartsWith (table l : List ℕ) : Type 0 where
  pub rest : List ℕ
  pub is : table ≡ l ++ rest

-- the table tells where the trees start of which these are the records
pub record TellsStarts (N : ℕ) (rs table : List ℕ) : Type 0 where
  pub is : (ts : Trees) → Accepted N rs ts → StartsWith table (starts 0 ts)
