-- Trees in order, not always one right after another: those at top level, with begins seen through.
use Rattle.std.specs.Prelude.{ℕ, ◌+◌, ◌≤◌}
use Rattle.tree.specs.Tree.{Trees, nil, cons, size, Num}

-- trees in order between the records i and j, perhaps with other records between them
abbrev pub Spread : ℕ → ℕ → Trees → Type 0
Spread i j nil = i ≤ j
Spread i j (cons t ts) = (k : ℕ) × (i ≤ k) × Num k t × Spread (k + size t) j ts
