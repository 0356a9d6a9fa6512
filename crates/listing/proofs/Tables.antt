-- The parts of the lent tables that an input fills.
use Prim.Native.Nat.{ℕ, ◌*◌, ◌%◌, ◌≤◌}
use mathlib.Core.Bool.{true, false, and-eq-true_iff}
use mathlib.Core.Logic.{◌⊎◌, inl, inr}
use mathlib.Core.List.{List}
use mathlib.Core.Path.{◌≡◌, ◌∙◌}
use native.Mathlib.Omega.{arith}
use borrow.Author.Tests.{eq-eqb, ne_eqb, eqb-true}
use lib.Dec.{eqb}
use lib.ListN.{length, take}
use lib.Seq.{length-take-le}
use Rattle.tree.specs.Record.{width}
use Rattle.pass.specs.Run.{Tables, facts_length, lengths_fit, fitting}
use Rattle.listing.specs.Listing.{classes_length, records_length, all_fit}
use Rattle.listing.specs.Laws.Fits.{fits}
use Rattle.listing.specs.Answered.{Few}

-- a lent table of another length than it should have
pub unfit : (T R : List ℕ) (t : Tables) → ¬ (length T ≡ classes_length) ⊎ (length T ≡ classes_length) × ¬ (length R ≡ records_length) → false ≡ all_fit T R t
unfolding all_fit
unfit T R t (inl h) = rw (ne_eqb (length T) classes_length h)
unfit T R t (inr (e, h)) = rw (eq-eqb (length T) classes_length e, ne_eqb (length R) records_length h)

-- check 1, of whole records
pub whole-fits : (rs : List ℕ) (t : Tables) → length rs % width ≡ 0 → fitting rs t ≡ lengths_fit t
unfolding fitting
whole-fits rs t e = rw (fitting, eq-eqb (length rs % width) 0 e)

module _ {T R : List ℕ} {t : Tables} {names many : ℕ} (w : Few T R t names many) where
  pub class_room : names ≤ length T
  class_room = omega (arith, w.names, (fits T R t w.fit).classes)

  pub record_room : width * many ≤ length R
  record_room = omega (arith, w.records, (fits T R t w.fit).records)

  pub part_long : length (take (width * many) R) ≡ width * many
  part_long = length-take-le (width * many) R record_room

  pub part-fits : fitting (take (width * many) R) t ≡ true
  part-fits = whole-fits (take (width * many) R) t (omega (arith, part_long)) ∙ (fits T R t w.fit).tables

  pub facts_long : length t.facts ≡ facts_length
  unfolding lengths_fit
  facts_long = eqb-true _ _ ((and-eq-true_iff (eqb (length t.facts) facts_length) _).0 (fits T R t w.fit).tables).0
