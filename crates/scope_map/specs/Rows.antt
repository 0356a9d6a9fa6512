-- The live names as rows of a lent table: name, layer, and value and link of each, oldest first.
use Rattle.std.specs.Prelude.{ℕ, zero, suc, ◌+◌, ◌*◌, ◌/◌, ◌%◌, List, [], ◌∷◌, get_or, set}
use Rattle.scope_map.specs.ScopeMap.{Live}
use Rattle.scope_map.specs.declared.Row.{Row}

-- a number takes values and links below these
abbrev pub values_most : ℕ
values_most = 65536

abbrev pub links_most : ℕ
links_most = 65536

abbrev pub row_at : List ℕ → ℕ → Live ℕ
row_at t i = record { name = get_or t (3 * i) 0; layer = get_or t (3 * i + 1) 0; value = get_or t (3 * i + 2) 0 % values_most }

abbrev pub link_at : List ℕ → ℕ → ℕ
link_at t i = get_or t (3 * i + 2) 0 / values_most

abbrev pub live_of : Row → Live ℕ
live_of r = record { name = r.name; layer = r.layer; value = r.value }

-- the names of the first n rows, newest first
unfoldable pub live_in : List ℕ → ℕ → List (Live ℕ)
live_in t zero = []
live_in t (suc n) = row_at t n ∷ live_in t n

-- n rows from row i on, oldest first
unfoldable pub rows_from : List ℕ → ℕ → ℕ → List (Live ℕ)
rows_from t i zero = []
rows_from t i (suc n) = row_at t i ∷ rows_from t (suc i) n

-- a row is written
abbrev pub written : List ℕ → ℕ → ℕ → ℕ → ℕ → ℕ → List ℕ
written t i x d v l = set (set (set t (3 * i) x) (3 * i + 1) d) (3 * i + 2) (v + values_most * l)
