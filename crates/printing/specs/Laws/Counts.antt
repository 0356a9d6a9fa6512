-- One row more is counted.
use Rattle.std.specs.Prelude.{◌+◌, Bool, List, [], ◌∷◌, ◌++◌, ◌≡◌}
use Rattle.std.proofs.Common.{arith}
use Rattle.tree.specs.Tree.{bit}
use Rattle.semantic.specs.Rows.{Row}
use Rattle.printing.specs.Text.{count}

pub count_snoc : (test : Row → Bool) (l : List Row) (r : Row) → count test (l ++ (r ∷ [])) ≡ count test l + bit (test r)
unfolding count
count_snoc test [] r = omega arith
count_snoc test (a ∷ l) r = omega (arith, count_snoc test l r)
