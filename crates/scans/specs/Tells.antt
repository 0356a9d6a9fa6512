-- An answer that tells whether something holds.
use Rattle.std.specs.Prelude.{Bool, true, ◌≡◌}

pub record Tells (r : Bool) (P : Type 0) : Type 0 where
  pub yes : r ≡ true → P
  pub all : P → r ≡ true
