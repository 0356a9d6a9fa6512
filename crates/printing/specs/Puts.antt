-- What a function that writes text into a buffer promises.
use Rattle.std.specs.Prelude.{ℕ, ◌≤◌, List, ◌++◌, ◌≡◌, length, take}
use Rattle.printing.specs.declared.text.Text.{Text}

-- t stands after the text so far
pub record Puts (t : List ℕ) (x y : Text) : Type 0 where
  pub text : take y.len y.out.now ≡ take x.len x.out.now ++ t
  pub long : length y.out.now ≡ length x.out.now

-- the first r bytes are t, and a line of at most 128 bytes
pub record Line (t d : List ℕ) (r : ℕ) : Type 0 where
  pub text : take r d ≡ t
  pub short : r ≤ 128
