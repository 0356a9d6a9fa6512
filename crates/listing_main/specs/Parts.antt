-- What is promised of the places where inputs end: so that the printing ends.
use Rattle.std.specs.Prelude.{ℕ, ◌+◌, ◌≤◌, List, ◌≡◌, length}

-- the first input of these ends at the place `end`
pub record Ends (l : List ℕ) (end : ℕ) : Type 0 where
  pub inside : end ≤ length l
  pub parting : ¬ (end ≡ length l) → end + 4 ≤ length l
