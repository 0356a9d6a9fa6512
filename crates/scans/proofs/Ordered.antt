-- Check 8 where ids come in order: the loop that tells, and that none repeats.
use Rattle.std.specs.Prelude.{None}
use Prim.Native.Nat.{ℕ, zero, suc, ◌+◌, ◌≤◌, ◌<◌}
use mathlib.Core.List.{List, []}
use mathlib.Core.Bool.{Bool, true, false, cond}
use mathlib.Core.Path.{◌≡◌, refl, ap, sym, subst, subst⁻¹, ◌∙◌}
use native.Mathlib.Omega.{arith}
use native.Mathlib.Decide.{dec_lt}
use borrow.Author.Tests.{eq-eqb, ne_eqb}
use lib.Dec.{eqb}
use lib.ListN.{length}
use Rattle.tree.specs.Record.{records, nth}
use Rattle.tree.specs.Check.{member, repeated}
use Rattle.scans.specs.Private.Seen.{seen}
use Rattle.scans.specs.Private.InOrder.{Beyond, InOrder}
use Rattle.scans.proofs.Repeated.{Compared, again, ids_begin, ids_next, ids_end}

-- None repeats

unlike : (rising : Bool) (x y : ℕ) → Beyond rising x y → (y ≡ x → ⊥)
unlike true x y b e = absurd (omega arith)
unlike false x y b e = absurd (omega arith)

module _ {rising : Bool} {rs : List ℕ} (o : InOrder rising rs) where
  unseen : (j : ℕ) → j < length (records rs) → 0 < (nth rs j).id → (i : ℕ) → i ≤ j → member (nth rs j).id (seen rs i) ≡ false
  unseen j h z zero g = refl
  unseen j h z (suc i) g = rw (ne_eqb (nth rs j).id (nth rs i).id (differ (dec_lt 0 (nth rs i).id))) (unseen j h z i (omega arith))
    where
      differ : Dec (0 < (nth rs i).id) → ((nth rs j).id ≡ (nth rs i).id → ⊥)
      differ (yes y) e = unlike rising (nth rs i).id (nth rs j).id (o.is i j (omega arith) h y z) e
      differ (no y) e = absurd (omega arith)

  new : (j : ℕ) → j < length (records rs) → Dec (0 < (nth rs j).id) → again rs j ≡ false
  new j h (yes z) = rw (ne_eqb (nth rs j).id 0 (λ e. absurd (omega arith))) (unseen j h z j (omega arith))
  new j h (no z) = let e : (nth rs j).id ≡ 0 = omega arith in rw e

  compared : (i : ℕ) → i ≤ length (records rs) → Compared rs i
  compared zero h = ids_begin rs
  compared (suc i) h =
      let e : i + 1 ≡ suc i = omega arith in
      subst (Compared rs) e (ids_next (compared i (omega arith)) (omega arith) refl (new i (omega arith) (dec_lt 0 (nth rs i).id)))

  pub none_repeats : None ≡ repeated [] (records rs)
  none_repeats = ids_end (compared (length (records rs)) (omega arith)) (omega arith)

-- The loop

-- x is no further than the last one
abbrev pub AtMost : Bool → ℕ → ℕ → Type 0
AtMost true last x = x ≤ last
AtMost false last x = last ≤ x

at_itself : (rising : Bool) (x : ℕ) → AtMost rising x x
at_itself true x = omega arith
at_itself false x = omega arith

further : (rising : Bool) (last x y : ℕ) → AtMost rising last x → Beyond rising last y → Beyond rising x y
further true last x y h b = omega arith
further false last x y h b = omega arith

passed : (rising : Bool) (last x y : ℕ) → AtMost rising last x → Beyond rising last y → AtMost rising y x
passed true last x y h b = omega arith
passed false last x y h b = omega arith

-- the loop has come to record i: those before it are in order, the last id is the furthest of them, or none was there
pub record Ordering (rising : Bool) (rs : List ℕ) (last i : ℕ) : Type 0 where
  pub pairs : (k m : ℕ) → k < m → m < i → 0 < (nth rs k).id → 0 < (nth rs m).id → Beyond rising (nth rs k).id (nth rs m).id
  pub reached : (k : ℕ) → k < i → 0 < (nth rs k).id → AtMost rising last (nth rs k).id
  pub tight : (x : ℕ) → 0 < x → x < 4294967296 → ((k : ℕ) → k < i → 0 < (nth rs k).id → Beyond rising (nth rs k).id x) → Beyond rising last x
  pub few : last ≤ 4294967296

start_tight : (rising : Bool) (x : ℕ) → 0 < x → x < 4294967296 → Beyond rising (cond rising 0 4294967296) x
start_tight true x z h = z
start_tight false x z h = h

-- a number that is picked is no larger than both
pub picked_most : (b : Bool) (x y : ℕ) {m : ℕ} → x ≤ m → y ≤ m → cond b x y ≤ m
picked_most true x y h k = h
picked_most false x y h k = k

pub order_begin : (rising : Bool) (rs : List ℕ) {last : ℕ} → last ≡ cond rising 0 4294967296 → Ordering rising rs last 0
order_begin rising rs e = record {
  pairs = λ k m h g. absurd (omega arith);
  reached = λ k h. absurd (omega arith);
  tight = λ x z h f. subst (λ (l : ℕ). Beyond rising l x) (sym e) (start_tight rising x z h);
  few = omega (arith, e, picked_most rising 0 4294967296 {m = 4294967296} (omega arith) (omega arith));
}

beyond : (rising : Bool) (last x : ℕ) → cond rising last x + 1 ≤ cond rising x last → Beyond rising last x
beyond true last x h = omega arith
beyond false last x h = omega arith

not_beyond : (rising : Bool) (last x : ℕ) → cond rising x last < cond rising last x + 1 → Beyond rising last x → ⊥
not_beyond true last x h b = absurd (omega arith)
not_beyond false last x h b = absurd (omega arith)

still : (rising : Bool) (last k : ℕ) → cond rising last last < cond rising last last + k → k ≡ 0 → ⊥
still true last k h e = absurd (omega arith)
still false last k h e = absurd (omega arith)

module _ {rising : Bool} {rs : List ℕ} {last i : ℕ} (a : Ordering rising rs last i) where
  -- record i has no id
  keeps : (nth rs i).id ≡ 0 → Ordering rising rs last (i + 1)
  keeps e = record {
    pairs = λ k m h g z y. pair k m h z y (dec_lt m i) (omega arith);
    reached = λ k h z. reach k z (dec_lt k i) (omega arith);
    tight = λ x z h f. a.tight x z h (λ k g y. f k (omega arith) y);
    few = a.few;
  }
    where
      last_one : (k : ℕ) → k ≤ i → (k < i → ⊥) → 0 < (nth rs k).id → ⊥
      last_one k h n z = let w : k ≡ i = omega arith in let y = subst (λ (j : ℕ). 0 < (nth rs j).id) w z in absurd (omega arith)

      pair : (k m : ℕ) → k < m → 0 < (nth rs k).id → 0 < (nth rs m).id → Dec (m < i) → m ≤ i → Beyond rising (nth rs k).id (nth rs m).id
      pair k m h z y (yes g) w = a.pairs k m h g z y
      pair k m h z y (no n) w = absurd (last_one m w n y)

      reach : (k : ℕ) → 0 < (nth rs k).id → Dec (k < i) → k ≤ i → AtMost rising last (nth rs k).id
      reach k z (yes g) w = a.reached k g z
      reach k z (no n) w = absurd (last_one k w n z)

  -- record i has an id beyond the last one
  grows : 0 < (nth rs i).id → (nth rs i).id < 4294967296 → Beyond rising last (nth rs i).id → Ordering rising rs (nth rs i).id (i + 1)
  grows z s b = record {
    pairs = λ k m h g y w. pair k m h y w (dec_lt m i) (omega arith);
    reached = λ k h y. reach k y (dec_lt k i) (omega arith);
    tight = λ x y h f. f i (omega arith) z;
    few = omega arith;
  }
    where
      pair : (k m : ℕ) → k < m → 0 < (nth rs k).id → 0 < (nth rs m).id → Dec (m < i) → m ≤ i → Beyond rising (nth rs k).id (nth rs m).id
      pair k m h y w (yes g) e = a.pairs k m h g y w
      pair k m h y w (no n) e =
          let q : i ≡ m = omega arith in
          subst (λ (j : ℕ). Beyond rising (nth rs k).id (nth rs j).id) q (further rising last (nth rs k).id (nth rs i).id (a.reached k (omega arith) y) b)

      reach : (k : ℕ) → 0 < (nth rs k).id → Dec (k < i) → k ≤ i → AtMost rising (nth rs i).id (nth rs k).id
      reach k y (yes g) e = passed rising last (nth rs k).id (nth rs i).id (a.reached k g y) b
      reach k y (no n) e = let q : i ≡ k = omega arith in subst (λ (j : ℕ). AtMost rising (nth rs i).id (nth rs j).id) q (at_itself rising (nth rs i).id)

  module _ {x : ℕ} (ex : x ≡ (nth rs i).id) (s : x < 4294967296) {next : ℕ} (en : next ≡ cond (eqb x 0) last x) where
    none-at : (nth rs i).id ≡ 0 → next ≡ last
    none-at z = en ∙ ap (λ (b : Bool). cond b last x) (eq-eqb x 0 (ex ∙ z))

    some_at : 0 < (nth rs i).id → next ≡ x
    some_at z = en ∙ ap (λ (b : Bool). cond b last x) (ne_eqb x 0 (λ e. absurd (omega arith)))

    step-one : 0 < (nth rs i).id → ◌≡◌ {A = ℕ} (cond (eqb x 0) 0 1) 1
    step-one z = ap (λ (b : Bool). cond b 0 1) (ne_eqb x 0 (λ e. absurd (omega arith)))

    pub order_next : cond rising last next + cond (eqb x 0) 0 1 ≤ cond rising next last → Ordering rising rs next (i + 1)
    order_next h = go (dec_lt 0 (nth rs i).id)
      where
        go : Dec (0 < (nth rs i).id) → Ordering rising rs next (i + 1)
        go (yes z) =
            let e = some_at z ∙ ex in
            let b : cond rising last (nth rs i).id + 1 ≤ cond rising (nth rs i).id last = subst (λ (j : ℕ). cond rising last j + 1 ≤ cond rising j last) e (rw (step-one z) at h) in
            subst⁻¹ (λ (j : ℕ). Ordering rising rs j (i + 1)) e (grows z (omega (arith, ex)) (beyond rising last (nth rs i).id b))
        go (no z) = let w : (nth rs i).id ≡ 0 = omega arith in subst⁻¹ (λ (j : ℕ). Ordering rising rs j (i + 1)) (none-at w) (keeps w)

    -- ids in order go on
    pub order_fails : i < length (records rs) → cond rising next last < cond rising last next + cond (eqb x 0) 0 1 → InOrder rising rs → ⊥
    order_fails h g o = go (dec_lt 0 (nth rs i).id)
      where
        go : Dec (0 < (nth rs i).id) → ⊥
        go (yes z) =
            let e = some_at z ∙ ex in
            let b : cond rising (nth rs i).id last < cond rising last (nth rs i).id + 1 = subst (λ (j : ℕ). cond rising j last < cond rising last j + 1) e (rw (step-one z) at g) in
            not_beyond rising last (nth rs i).id b (a.tight (nth rs i).id z (omega (arith, ex)) (λ k w y. o.is k i w h y z))
        go (no z) =
            let w : (nth rs i).id ≡ 0 = omega arith in
            still rising last (cond (eqb x 0) 0 1) (subst (λ (j : ℕ). cond rising j last < cond rising last j + cond (eqb x 0) 0 1) (none-at w) g) (ap (λ (b : Bool). cond b 0 1) (eq-eqb x 0 (ex ∙ w)))

  pub order_end : length (records rs) ≤ i → InOrder rising rs
  order_end h = record { is = λ k m g w z y. a.pairs k m g (omega arith) z y }
