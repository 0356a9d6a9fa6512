-- Checks 4 and 5 in one pass: the open records are held, none nested too deep so far, and those at top level are listed.
use Rattle.std.specs.Prelude.{None}
use Prim.Native.Nat.{ℕ, suc, ◌+◌, ◌*◌, ◌%◌, ◌≤◌, ◌<◌}
use mathlib.Core.List.{List, [], ◌∷◌}
use mathlib.Core.Bool.{Bool, true, false, cond}
use mathlib.Core.Path.{◌≡◌, refl, ap, sym, subst, ◌∙◌}
use native.Mathlib.Omega.{arith}
use borrow.Author.Tests.{ltb-false, eqb-true, not-false, eq-eqb, le-ltb}
use lib.Dec.{eqb}
use lib.ListN.{length, drop, set, replicate}
use Rattle.tree.specs.Record.{Record, records, blank, nth}
use Rattle.tree.specs.Form.{children_of}
use Rattle.tree.specs.Place.{Open, taken, after, Placed, placed, left}
use Rattle.tree.specs.First.{on, first}
use Rattle.scans.proofs.First.{on-zero, first_next, first-none}
use Rattle.tree.proofs.Laws.Acceptance.Walk.{placing, length_taken}
use Rattle.scans.specs.Deep.{is_deep, first_deep}
use Rattle.checks.specs.declared.sweep.Innermost.{Innermost}
use Rattle.scans.specs.ToCome.{Live}
use Rattle.checks.specs.Private.Held.{in_script, Inner, Steps}
use Rattle.tree.specs.Check.{when, check4, check5}
use Rattle.scans.proofs.Places.{opened, after_live, closed_few, left-next, left_end, placed-next, placed_end}
use Rattle.checks.proofs.Listing.{Listed, list_begin, list-next}
use Rattle.checks.proofs.Holding.{script_length, script_below, script_some, later, later-some, script_after, inner_few, inner-some}

-- the loop has come to record i, where s is open and a is the innermost; the script has more to come than there are records left
pub record Standing (rs tops kept : List ℕ) (a : Innermost) (top i : ℕ) : Type 0 where
  pub s : List Open
  pub m : ℕ
  pub live : Live s
  pub long : length kept ≡ 65
  pub more : length (records rs) < m + i
  pub held : Inner kept (in_script m s) a
  pub near : length s ≤ 64
  pub few : a.word ≤ 4294967295
  pub deep : first_deep [] (records rs) ≡ on i (first_deep s (drop i (records rs)))
  pub rest : left [] (records rs) ≡ left s (drop i (records rs))
  pub listed : Listed rs tops top i s

pub stand_begin : (rs tops : List ℕ) → length (records rs) ≤ 4096 → length (records rs) < length tops → {n : ℕ} → n ≡ length (records rs) → Standing rs tops (replicate 65 0) (record { word = 128 * (n + 1); under = 0 }) 0 0
stand_begin rs tops h g {n} e = record {
  s = [];
  m = n + 1;
  live = tt;
  long = refl;
  more = omega arith;
  held = record { is = omega arith; under = refl };
  near = omega arith;
  few = omega arith;
  deep = sym (on-zero _);
  rest = refl;
  listed = list_begin rs tops g;
}

when-none : (b : Bool) (i : ℕ) → when b i ≡ None → b ≡ false
when-none true i e = let z : ◌≡◌ {A = ℕ} 0 1 = cc in absurd (omega arith)
when-none false i e = refl

module _ {rs tops kept : List ℕ} {b : Innermost} {top i : ℕ} (a : Standing rs tops kept b top i) where
  pub stand_nesting : b.word % 128 ≡ length a.s
  stand_nesting = omega (arith, a.held.is, script_below a.m a.s, a.near)

  after_few : (r : Record) → length (after a.s r) ≤ suc (length a.s)
  unfolding after
  after_few r = omega (arith, closed_few (opened r ∷ taken a.s), length_taken a.s)

  module _ (h : i < length (records rs)) where
    -- the innermost has a child to come, and where that is the last another is kept
    pub stand_some : 128 ≤ b.word
    stand_some = omega (arith, a.held.is, script_some a.m a.s (omega (arith, a.more)) a.live)

    pub stand_last : b.word < 256 → 0 < b.under
    stand_last = inner-some kept a.m (omega (arith, a.more)) a.s a.held

    at_record : first_deep [] (records rs) ≡ on i (first is_deep (placing a.s (nth rs i) ∷ placed (after a.s (nth rs i)) (drop (i + 1) (records rs))))
    at_record = a.deep ∙ ap (λ (m : List Placed). on i (first is_deep m)) (placed-next (records rs) blank i a.s h)

    pub stand_near : (N : ℕ) → check5 N rs ≡ None → b.word % 128 < 64
    unfolding check5
    stand_near N e = omega (arith, ltb-false 64 (suc (length a.s)) (first-none is_deep i (placing a.s (nth rs i)) _ (sym at_record ∙ e)), stand_nesting)

  module _ (h : i < length (records rs)) (small : b.word % 128 < 64) where
    pub stand_under : b.under + 1 < length kept
    stand_under = omega (arith, a.long, inner_few kept (in_script a.m a.s) a.held, script_below a.m a.s, stand_nesting)

    not-deep : first_deep [] (records rs) ≡ on (i + 1) (first_deep (after a.s (nth rs i)) (drop (i + 1) (records rs)))
    not-deep = at_record h ∙ first_next is_deep i (placing a.s (nth rs i)) _ (le-ltb 64 (suc (length a.s)) (omega (arith, stand_nesting)))

    next_listed : Listed rs (set tops top i) (top + cond (eqb (b.word % 128) 0) 1 0) (i + 1) (after a.s (nth rs i))
    next_listed = rw stand_nesting (list-next a.listed h)

    module _ {kept' : List ℕ} {children : ℕ} {d : Innermost} (t : Steps kept b children kept' d) (ec : children ≡ children_of (nth rs i).form (nth rs i).count) where
      inner-next : Inner kept' (in_script (later a.m a.s) (after a.s (nth rs i))) d
      unfolding after children_of
      inner-next =
          let o = opened (nth rs i) in
          subst (λ (l : List Open). Inner kept' l d) (script_after a.m a.s o (omega (arith, a.more)))
          (t.is (in_script a.m a.s) o (omega (arith, script_length a.m a.s, stand_nesting)) a.held ec)

      pub stand_next : Standing rs (set tops top i) kept' d (top + cond (eqb (b.word % 128) 0) 1 0) (i + 1)
      stand_next = record {
        s = after a.s (nth rs i);
        m = later a.m a.s;
        live = after_live a.s (nth rs i);
        long = t.long ∙ a.long;
        more = omega (arith, a.more, later-some a.m a.s);
        held = inner-next;
        near = omega (arith, after_few (nth rs i), stand_nesting);
        few = t.few;
        deep = not-deep;
        rest = a.rest ∙ left-next (records rs) blank i a.s h;
        listed = next_listed;
      }

  module _ (h : length (records rs) ≤ i) (N : ℕ) where
    pub stand_shallow : check5 N rs ≡ None
    unfolding check5 first
    stand_shallow = a.deep ∙ ap (λ (m : List Placed). on i (first is_deep m)) (placed_end (records rs) blank i a.s h)

    at-end : left [] (records rs) ≡ a.s
    at-end = a.rest ∙ left_end (records rs) blank i a.s h

    pub stand_none : check4 N rs ≡ None → b.word % 128 ≡ 0
    unfolding check4
    stand_none e = stand_nesting ∙ eqb-true (length a.s) 0 (not-false _ (when-none _ _ (rw at-end at e)))

    pub stand_whole : b.word % 128 ≡ 0 → check4 N rs ≡ None
    unfolding check4
    stand_whole z = rw (at-end, eq-eqb (length a.s) 0 (sym stand_nesting ∙ z))
