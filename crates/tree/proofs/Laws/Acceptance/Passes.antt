-- What it is that the checks 1 to 8 and 16 pass.
use Rattle.std.specs.Prelude.{ℕ, ◌%◌, ◌≤◌, Bool, true, false, ◌||◌, ◌≡◌, refl, eqb, ltb, None}
use Rattle.std.proofs.lemmas.Option.{none-some}
use mathlib.Core.List.{List, [], ◌∷◌}
use Rattle.std.proofs.Math.Bool.{not}
use Rattle.std.proofs.Common.{true≢false, arith, sym}
use Rattle.std.proofs.Math.Path.{ap}
use borrow.Author.Tests.{ltb-false, le-ltb, eqb-true, eq-eqb, not-false}
use Rattle.std.proofs.Math.ListN.{length}
use Rattle.tree.specs.Record.{width, records}
use Rattle.tree.specs.Form.{fits}
use Rattle.tree.specs.Place.{Open, placed, left}
use Rattle.tree.specs.Check.{when, or_else, check1, check2, check3, check4, check5, check6, check7, check16, check8, untested, refusal}
use Rattle.tree.specs.Accepted.{All, Distinct}
use Rattle.tree.proofs.Laws.Acceptance.Tests.{first-none, none_first, all_map, passed}
use Rattle.tree.proofs.Laws.Acceptance.Walk.{too_deep, notAName, empty_call, Walk, walk_of, by_check}
use Rattle.tree.proofs.Laws.Acceptance.Ids.{repeated-none, none-repeated}

pub record Passes (N : ℕ) (rs : List ℕ) : Type 0 where
  pub whole : length rs % width ≡ 0
  pub few : length (records rs) ≤ 4096
  pub names : N ≤ 1024
  pub fields : All (λ r. fits N r ≡ true) (records rs)
  pub walks : Walk [] (records rs)
  pub ids : Distinct (records rs)

-- Tests

when-none : (b : Bool) (i : ℕ) → when b i ≡ None → b ≡ false
when-none true i e = absurd (none-some i (sym e))
when-none false i e = refl

zero_test : (n i : ℕ) → when (not (eqb n 0)) i ≡ None → n ≡ 0
zero_test n i e = eqb-true n 0 (not-false (eqb n 0) (when-none (not (eqb n 0)) i e))

test_zero : (n i : ℕ) → n ≡ 0 → when (not (eqb n 0)) i ≡ None
test_zero n i e = ap (λ (b : Bool). when (not b) i) (eq-eqb n 0 e)

or-false : (a b : Bool) → (a || b) ≡ false → (a ≡ false) × (b ≡ false)
or-false true b e = absurd (true≢false e)
or-false false b e = (refl, e)

empty : (s : List Open) → length s ≡ 0 → s ≡ []
empty [] e = refl
empty (o ∷ s) e = absurd (omega arith)

module _ (N : ℕ) (rs : List ℕ) where
  -- each check alone
  pub record Silent : Type 0 where
    pub c1 : check1 N rs ≡ None
    pub c2 : check2 N rs ≡ None
    pub c3 : check3 N rs ≡ None
    pub c4 : check4 N rs ≡ None
    pub c5 : check5 N rs ≡ None
    pub c6 : check6 N rs ≡ None
    pub c7 : check7 N rs ≡ None
    pub c16 : check16 N rs ≡ None
    pub c8 : check8 N rs ≡ None

  pub silent : refusal N rs ≡ None → Silent
  unfolding refusal
  silent e =
      let h1 = passed 1 (check1 N rs) _ e in
      let h2 = passed 2 (check2 N rs) _ h1.1 in
      let h3 = passed 3 (check3 N rs) _ h2.1 in
      let h4 = passed 4 (check4 N rs) _ h3.1 in
      let h5 = passed 5 (check5 N rs) _ h4.1 in
      let h6 = passed 6 (check6 N rs) _ h5.1 in
      let h7 = passed 7 (check7 N rs) _ h6.1 in
      let h16 = passed 16 (check16 N rs) _ h7.1 in
      let h8 = passed 8 (check8 N rs) _ h16.1 in
      record { c1 = h1.0; c2 = h2.0; c3 = h3.0; c4 = h4.0; c5 = h5.0; c6 = h6.0; c7 = h7.0; c16 = h16.0; c8 = h8.0 }

  none-all : Silent → refusal N rs ≡ None
  unfolding refusal
  none-all h =
      λ i.
      or_else 1 (h.c1 i)
      (or_else 2 (h.c2 i)
      (or_else 3 (h.c3 i)
      (or_else 4 (h.c4 i)
      (or_else 5 (h.c5 i)
      (or_else 6 (h.c6 i)
      (or_else 7 (h.c7 i)
      (or_else 16 (h.c16 i)
      (or_else 8 (h.c8 i) None))))))))

  pub passes : refusal N rs ≡ None → Passes N rs
  unfolding check1 check2 check3 check4 check5 check6 check7 check16 check8
  passes e =
      let l = records rs in
      let c = silent e in
      let two = or-false (ltb 4096 (length l)) (ltb 1024 N) (when-none _ 0 c.c2) in
      record {
        whole = zero_test (length rs % width) 0 c.c1;
        few = ltb-false 4096 (length l) two.0;
        names = ltb-false 1024 N two.1;
        fields = all_map (λ r h. not-false (fits N r) h) l (first-none (λ r. not (fits N r)) l c.c3);
        walks =
            walk_of [] l
            (record {
              ends = empty (left [] l) (zero_test (length (left [] l)) (length l) c.c4);
              deep = first-none too_deep (placed [] l) c.c5;
              named = first-none notAName (placed [] l) c.c6;
              full = first-none empty_call l c.c7;
              tested = first-none untested l c.c16;
            });
        ids = repeated-none l c.c8;
      }

  pub passed_none : Passes N rs → refusal N rs ≡ None
  unfolding check1 check2 check3 check4 check5 check6 check7 check16 check8
  passed_none p =
      let l = records rs in
      let w = by_check [] l p.walks in
      none-all
      (record {
        c1 = test_zero (length rs % width) 0 p.whole;
        c2 = λ i. when (le-ltb 4096 (length l) p.few i || le-ltb 1024 N p.names i) 0;
        c3 = none_first (λ r. not (fits N r)) l (all_map (λ r h. ap not h) l p.fields);
        c4 = test_zero (length (left [] l)) (length l) (ap length w.ends);
        c5 = none_first too_deep (placed [] l) w.deep;
        c6 = none_first notAName (placed [] l) w.named;
        c7 = none_first empty_call l w.full;
        c16 = none_first untested l w.tested;
        c8 = none-repeated l p.ids;
      })
