-- What is left of the checks once the first have passed.
use Rattle.std.specs.Prelude.{Option, None, Some}
use Prim.Native.Nat.{ℕ, ◌%◌, ◌≤◌, ◌<◌}
use mathlib.Core.List.{List}
use mathlib.Core.Path.{◌≡◌}
use native.Mathlib.Omega.{arith}
use borrow.Author.Tests.{eq-eqb, ne_eqb, lt-ltb, le-ltb}
use lib.ListN.{length}
use Rattle.tree.specs.Record.{width, records}
use Rattle.tree.specs.Check.{Refusal, or_else, check1, check2, check3, check4, check5, check6, check7, check16, check8, refusal}
use Rattle.checks.specs.Private.Order.{from3, from8}
use Rattle.tree.proofs.Laws.Acceptance.Passes.{silent}
use Rattle.checks.specs.Private.Clear.{Clear}

module _ (N : ℕ) (rs : List ℕ) where
  pub ragged : (length rs % width ≡ 0 → ⊥) → Some (record { number = 1; at = 0 }) ≡ refusal N rs
  unfolding refusal check1
  ragged h = rw (ne_eqb (length rs % width) 0 h)

  module _ (h : length rs % width ≡ 0) where
    pub many-records : 4096 < length (records rs) → Some (record { number = 2; at = 0 }) ≡ refusal N rs
    unfolding refusal check1 check2
    many-records g = rw (eq-eqb (length rs % width) 0 h, lt-ltb 4096 (length (records rs)) g)

    module _ (g : length (records rs) ≤ 4096) where
      pub many-names : 1024 < N → Some (record { number = 2; at = 0 }) ≡ refusal N rs
      unfolding refusal check1 check2
      many-names k = rw (eq-eqb (length rs % width) 0 h, le-ltb 4096 (length (records rs)) g, lt-ltb 1024 N k)

      pub past_2 : N ≤ 1024 → refusal N rs ≡ from3 N rs
      unfolding refusal check1 check2
      past_2 k = rw (eq-eqb (length rs % width) 0 h, le-ltb 4096 (length (records rs)) g, le-ltb 1024 N k)

-- the checks from 3 on refuse by numbers from 3 on
abbrev pub number_in : Option Refusal → ℕ
number_in None = 3
number_in (Some r) = r.number

least : (n : ℕ) (o : Option ℕ) (p : Option Refusal) → 3 ≤ n → 3 ≤ number_in p → 3 ≤ number_in (or_else n o p)
least n None p h g = g
least n (Some i) p h g = h

pub late : (N : ℕ) (rs : List ℕ) → 3 ≤ number_in (from3 N rs)
late N rs =
    least 3 (check3 N rs) _ (omega arith)
    (least 4 (check4 N rs) _ (omega arith)
    (least 5 (check5 N rs) _ (omega arith)
    (least 6 (check6 N rs) _ (omega arith)
    (least 7 (check7 N rs) _ (omega arith)
    (least 16 (check16 N rs) _ (omega arith)
    (least 8 (check8 N rs) None (omega arith) (omega arith)))))))

-- where none of the checks 3 to 7 and 16 applies, the last is left
pub cleared : (N : ℕ) (rs : List ℕ) → Clear N rs → from3 N rs ≡ from8 N rs
cleared N rs c = rw (c.fields, c.children, c.nesting, c.names, c.calls, c.tests)

-- where none refuses, none of them applies
pub unrefused : (N : ℕ) (rs : List ℕ) → refusal N rs ≡ None → Clear N rs
unrefused N rs e = let c = silent N rs e in record { fields = c.c3; children = c.c4; nesting = c.c5; names = c.c6; calls = c.c7; tests = c.c16 }
