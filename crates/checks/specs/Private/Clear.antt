-- What one pass says of the checks 3 to 7 and 16.
use Rattle.std.specs.Prelude.{ℕ, List, ◌≡◌, None}
use Rattle.tree.specs.Check.{check3, check4, check5, check6, check7, check16}

-- none of them applies
pub record Clear (N : ℕ) (rs : List ℕ) : Type 0 where
  pub fields : check3 N rs ≡ None
  pub children : check4 N rs ≡ None
  pub nesting : check5 N rs ≡ None
  pub names : check6 N rs ≡ None
  pub calls : check7 N rs ≡ None
  pub tests : check16 N rs ≡ None
