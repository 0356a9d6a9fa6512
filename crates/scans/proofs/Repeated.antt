-- Check 8: the ids before record i, latest first, are those that `repeated` has seen there.
use Rattle.std.specs.Prelude.{None, Some}
use Prim.Native.Nat.{ℕ, suc, ◌+◌, ◌≤◌, ◌<◌}
use mathlib.Core.List.{List, [], ◌∷◌}
use mathlib.Core.Bool.{Bool, true, false, not, ◌&&◌}
use mathlib.Core.Path.{◌≡◌, ap, sym, ◌∙◌}
use native.Mathlib.Omega.{arith}
use borrow.Author.Tests.{eq-eqb, ne_eqb}
use lib.Dec.{eqb}
use lib.ListN.{length, drop, drop_of_length-le}
use lib.Seq.{drop-cons}
use Rattle.tree.specs.Record.{Record, records, blank, nth}
use Rattle.tree.specs.First.{on}
use Rattle.scans.proofs.First.{on-zero, on-on}
use Rattle.tree.specs.Check.{member, repeated}
use Rattle.scans.specs.Private.Seen.{seen}

pub seen_none : (rs : List ℕ) (j : ℕ) {i : ℕ} → i ≡ 0 → member j (seen rs i) ≡ false
seen_none rs j z = rw z

-- the id j among those of the first i records, of which record k is the last
module _ (rs : List ℕ) (j : ℕ) {i k : ℕ} (z : i ≡ suc k) where
  pub seen_hit : (nth rs k).id ≡ j → member j (seen rs i) ≡ true
  seen_hit e = rw (z, eq-eqb j (nth rs k).id (sym e))

  pub seen_miss : ((nth rs k).id ≡ j → ⊥) → member j (seen rs i) ≡ member j (seen rs k)
  seen_miss e = rw (z, ne_eqb j (nth rs k).id (λ p. e (sym p)))

abbrev pub again : List ℕ → ℕ → Bool
again rs i = not (eqb (nth rs i).id 0) && member (nth rs i).id (seen rs i)

-- the loop has come to record i
pub record Compared (rs : List ℕ) (i : ℕ) : Type 0 where
  pub within : i ≤ length (records rs)
  pub rest : repeated [] (records rs) ≡ on i (repeated (seen rs i) (drop i (records rs)))

pub ids_begin : (rs : List ℕ) → Compared rs 0
ids_begin rs = record { within = omega arith; rest = sym (on-zero _) }

module _ {rs : List ℕ} {i : ℕ} (a : Compared rs i) where
  module _ (h : i < length (records rs)) where
    at_record : repeated [] (records rs) ≡ on i (repeated (seen rs i) (nth rs i ∷ drop (suc i) (records rs)))
    at_record = a.rest ∙ ap (λ (l : List Record). on i (repeated (seen rs i) l)) (drop-cons (records rs) i blank h)

    pub ids_hit : {r : Bool} → r ≡ again rs i → r ≡ true → Some i ≡ repeated [] (records rs)
    unfolding repeated
    ids_hit e g = let t = sym e ∙ g in sym (at_record ∙ rw t (ap Some (omega arith)))

    pub ids_next : {r : Bool} → r ≡ again rs i → r ≡ false → Compared rs (i + 1)
    unfolding repeated
    ids_next e g =
        let t = sym e ∙ g in
        let z : i + 1 ≡ suc i = omega arith in
        let later = repeated ((nth rs i).id ∷ seen rs i) (drop (suc i) (records rs)) in
        record { within = omega arith; rest = at_record ∙ rw (t, z) (on-on i 1 later ∙ ap (λ (k : ℕ). on k later) z) }

  pub ids_end : length (records rs) ≤ i → None ≡ repeated [] (records rs)
  unfolding repeated
  ids_end h = sym (a.rest ∙ ap (λ (l : List Record). on i (repeated (seen rs i) l)) (drop_of_length-le (records rs) h))
