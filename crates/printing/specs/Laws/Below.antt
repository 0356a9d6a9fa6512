-- A number is below another, or it is not.
use Rattle.std.specs.Prelude.{ℕ, ◌≤◌, ◌<◌, Bool, true, false, ◌⊎◌, ◌≡◌, refl, ltb}
use Rattle.std.proofs.Common.{inl, inr, ltb-true, ltb-false}

pub below_or : (n m : ℕ) → (n < m) ⊎ (m ≤ n)
below_or n m = go (ltb n m) refl
  where
    go : (s : Bool) → ltb n m ≡ s → (n < m) ⊎ (m ≤ n)
    go true e = inl (ltb-true n m e)
    go false e = inr (ltb-false n m e)
