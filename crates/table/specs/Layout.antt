-- A table: a list of rows laid out in one list of numbers.
use Rattle.std.specs.Prelude.{ℕ, List, [], ◌∷◌, ◌++◌}

unfoldable pub layout : {A : Type 0} → (A → List ℕ) → List A → List ℕ
layout put [] = []
layout put (a ∷ l) = put a ++ layout put l
