-- `too_many`: test after test.
use Prim.Native.Nat.{ℕ, ◌≤◌}
use mathlib.Core.Bool.{Bool, true, false}
use mathlib.Core.Logic.{inl, inr}
use mathlib.Core.Path.{◌≡◌, refl}
use native.Mathlib.Omega.{arith}
use borrow.Author.Tests.{ltb-true, ltb-false, lt-ltb}
use lib.Dec.{ltb}
use Rattle.listing.specs.Listing.{records_most, classes_length}
use Rattle.listing.specs.Answered.{Counted, too_many, not-many}
use Rattle.listing.proofs.too_many.Goals as goal

by_names : (names many : ℕ) → many ≤ records_most → (b : Bool) → ltb classes_length names ≡ b → Counted names many b
by_names names many h true e = too_many (inr (ltb-true classes_length names e))
by_names names many h false e = not-many h (ltb-false classes_length names e)

pub returns-then-read : goal.returns-then-read
returns-then-read c = rw (lt-ltb records_most _ c.if-read.true) (too_many (inl c.if-read.true))

pub returns-else-read : goal.returns-else-read
returns-else-read c = by_names _ _ (omega arith) _ refl
