-- The first place in a list where a test holds.
use Rattle.std.specs.Prelude.{ℕ, ◌+◌, List, [], ◌∷◌, Bool, cond, Option, None, Some}

-- the same, m places further on
abbrev pub on : ℕ → Option ℕ → Option ℕ
on m None = None
on m (Some i) = Some (m + i)

module _ {A : Type 0} (test : A → Bool) where
  unfoldable pub first : List A → Option ℕ
  first [] = None
  first (a ∷ l) = cond (test a) (Some 0) (on 1 (first l))
