-- The yes-or-no fields of an entry are one number, and each comes back from it.
use Rattle.std.specs.Prelude.{ℕ, ◌/◌, ◌%◌, ◌≤◌, Bool, true, false, ◌≡◌, eqb}
use Rattle.std.proofs.Common.{arith}
use Rattle.tree.specs.Tree.{bit}
use Rattle.semantic.specs.Rows.{marks}
use Rattle.semantic.specs.Laws.Numbers.{bit-one}

pub bit_low : (b : Bool) → bit b ≤ 1
bit_low true = omega arith
bit_low false = omega arith

module _ (captured escapes enclosing mutated : Bool) where
  -- the number; escapes, enclosing and mutated are worth 2, 4 and 8
  abbrev m : ℕ
  m = marks captured escapes enclosing mutated

  pub captured_mark : eqb (m % 2) 1 ≡ captured
  captured_mark = let e : m % 2 ≡ bit captured = omega (arith, bit_low captured) in rw e (bit-one captured)

  pub escapes_mark : eqb (m / 2 % 2) 1 ≡ escapes
  escapes_mark = let e : m / 2 % 2 ≡ bit escapes = omega (arith, bit_low captured, bit_low escapes) in rw e (bit-one escapes)

  pub enclosing_mark : eqb (m / 4 % 2) 1 ≡ enclosing
  enclosing_mark =
      let e : m / 4 % 2 ≡ bit enclosing = omega (arith, bit_low captured, bit_low escapes, bit_low enclosing) in
      rw e (bit-one enclosing)

  pub mutated_mark : eqb (m / 8 % 2) 1 ≡ mutated
  mutated_mark =
      let e : m / 8 % 2 ≡ bit mutated = omega (arith, bit_low captured, bit_low escapes, bit_low enclosing, bit_low mutated) in
      rw e (bit-one mutated)
