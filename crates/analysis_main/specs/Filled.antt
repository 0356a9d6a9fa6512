-- How the program looks at a table.
use Rattle.std.specs.Prelude.{ℕ, Bool, List, ◌==◌}
use Rattle.std.specs.List.{list_all}

-- whether every number is x
abbrev pub is_filled : ℕ → List ℕ → Bool
is_filled x t = list_all (λ y. y == x) t
