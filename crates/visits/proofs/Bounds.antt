-- How far the records of a tree reach: in the part that starts with it, and in number.
use Prim.Native.Nat.{ℕ, ◌+◌, ◌-◌, ◌*◌, ◌≤◌, ◌<◌}
use mathlib.Core.List.{List}
use mathlib.Core.Path.{◌≡◌, ap, ◌∙◌}
use native.Mathlib.Omega.{arith}
use lib.ListN.{length, drop, length-drop}
use Rattle.tree.specs.Record.{width, records}
use Rattle.tree.proofs.Laws.Record.{length-records}
use Rattle.tree.specs.Tree.{size, sizes}
use Rattle.tree.proofs.Laws.Tree.{size_pos}
use Rattle.tree.proofs.Laws.Stands.{tree_inside, tree_few, trees_inside, trees_few}
use Rattle.work.specs.Tied.{Raw}
use Rattle.flags.specs.declared.Flags.{Flags as Coded}
use Rattle.visits.specs.Contract.{Fit, Done, Row, FitRow, DoneRow}

-- n records
pub record Span (rs part : List ℕ) (at n : ℕ) : Type 0 where
  pub long : width * n ≤ length part
  pub here : n ≤ length (records part)
  pub few : at + n ≤ 4096
  pub inside : at + n ≤ length (records rs)

spans : (rs : List ℕ) {part : List ℕ} {at n : ℕ} → part ≡ drop (width * at) rs → at + n ≤ length (records rs) → at + n ≤ 4096 → Span rs part at n
spans rs {part} {at} {n} e i f =
    let l : length part ≡ length (drop (width * at) rs) = ap length e in
    let h : width * n ≤ length part = omega (arith, l, length-drop (width * at) rs, length-records rs, i) in
    record { long = h; here = omega (arith, length-records part); few = f; inside = i }

-- the part that starts at record n
pub part_length : (l : List ℕ) (n : ℕ) {p : List ℕ} → p ≡ drop (width * n) l → length p ≡ length l - width * n
part_length l n e = ap length e ∙ length-drop (width * n) l

module _ {classes rs part : List ℕ} {at : ℕ} {g : Coded} {z : Raw} where
  pub whole : (x : Fit classes rs part at g z) → Span rs part at (size x.t)
  whole x = spans rs x.is (tree_inside x.stands) (tree_few x.stands)

  -- its own record
  pub some : (x : Fit classes rs part at g z) → 0 < size x.t
  some x = size_pos x.t

  pub used : {n : ℕ} {z' : Raw} (x : Fit classes rs part at g z) → Done classes rs part at g z n z' → Span rs part at n
  used x d = spans rs x.is (omega (arith, d.used x, tree_inside x.stands)) (omega (arith, d.used x, tree_few x.stands))

module _ {row : Row} {classes rs part : List ℕ} {k at : ℕ} {g : Coded} {z : Raw} where
  pub all : (x : FitRow row classes rs part k at g z) → Span rs part at (sizes x.ts)
  all x = spans rs x.is (trees_inside x.stand) (trees_few x.stand)

  pub used_all : {n : ℕ} {z' : Raw} (x : FitRow row classes rs part k at g z) → DoneRow row classes rs part k at g z n z' → Span rs part at n
  used_all x d = spans rs x.is (omega (arith, d.used x, trees_inside x.stand)) (omega (arith, d.used x, trees_few x.stand))
