-- The open records in their table: a record takes a place, and is open.
use Prim.Native.Nat.{ℕ, suc, ◌+◌, ◌-◌, ◌*◌, ◌%◌, ◌≤◌, ◌<◌}
use mathlib.Core.List.{List, [], ◌∷◌}
use mathlib.Core.Bool.{Bool, true, false, cond}
use mathlib.Core.Path.{◌≡◌, refl, ap, sym, subst, ◌∙◌}
use native.Mathlib.Omega.{arith}
use native.Mathlib.Decide.{dec_lt}
use borrow.Author.Tests.{eqb-true, eqb-false, ltb-true, ltb-false}
use lib.Dec.{eqb, ltb}
use lib.ListN.{length, get_or, set, length-set}
use lib.Seq.{get_or-set_same, get_or-set_other}
use Rattle.tree.specs.Place.{Open, closed, taken}
use Rattle.checks.specs.declared.sweep.Innermost.{Innermost}
use Rattle.scans.specs.ToCome.{to_come, Live, below}
use Rattle.checks.specs.Private.Held.{to_come_in, in_script, Held, Inner, Steps}
use Rattle.scans.proofs.Places.{closed_done, closed_open, by_closing, taken-one}

-- The script among the open records

pub script_length : (m : ℕ) (s : List Open) → length (in_script m s) ≡ suc (length s)
script_length m [] = refl
script_length m (o ∷ s) = ap suc (script_length m s)

pub script_below : (m : ℕ) (s : List Open) → length (below (in_script m s)) ≡ length s
script_below m [] = refl
script_below m (o ∷ s) = script_length m s

pub script_some : (m : ℕ) (s : List Open) → 0 < m → Live s → 0 < to_come_in (in_script m s)
script_some m [] z h = omega arith
script_some m (o ∷ s) z h = h

-- what it has to come then: a record takes its place where no other is open
abbrev pub later : ℕ → List Open → ℕ
later m [] = m - 1
later m (o ∷ s) = m

script_taken : (m : ℕ) (s : List Open) → taken (in_script m s) ≡ in_script (later m s) (taken s)
script_taken m [] = refl
script_taken m (o ∷ s) = refl

script_closed : (m : ℕ) → 0 < m → (s : List Open) → closed (in_script m s) ≡ in_script m (closed s)
script_closed m h = by_closing (λ s t. closed (in_script m s) ≡ in_script m t) (closed_open (record { names = 0; others = m }) [] (omega arith)) (λ o s e p. closed_done o (in_script m s) e ∙ p) (λ o s g. closed_open o (in_script m s) g)

pub later-some : (m : ℕ) (s : List Open) → m ≤ later m s + 1
later-some m [] = omega arith
later-some m (o ∷ s) = omega arith

-- while it has more than one to come it stays open
pub script_after : (m : ℕ) (s : List Open) (o : Open) → 1 < m → closed (o ∷ taken (in_script m s)) ≡ in_script (later m s) (closed (o ∷ taken s))
script_after m s o h = ap (λ (l : List Open). closed (o ∷ l)) (script_taken m s) ∙ script_closed (later m s) (omega (arith, later-some m s)) (o ∷ taken s)

module _ (kept : List ℕ) where
  few : (o : Open) (s : List Open) (p : ℕ) → Held kept (o ∷ s) p → ((q : ℕ) → Held kept s q → q ≤ length s) → Dec (0 < to_come o) → p ≤ length (o ∷ s)
  few o s p h f (yes g) = omega (arith, f (p - 1) (h.1 g).1)
  few o s p h f (no g) = omega (arith, f p (h.0 (omega arith)))

  -- no more are kept than are open
  held_few : (s : List Open) (p : ℕ) → Held kept s p → p ≤ length s
  held_few [] p h = omega (arith, h)
  held_few (o ∷ s) p h = few o s p h (λ q. held_few s q) (dec_lt 0 (to_come o))

  pub inner_few : (s : List Open) {a : Innermost} → Inner kept s a → a.under ≤ length (below s)
  inner_few s u = held_few (below s) _ u.under

  some : (o : Open) (s : List Open) (p : ℕ) → Held kept (o ∷ s) p → (Held kept s p → 0 < p) → Dec (0 < to_come o) → 0 < p
  some o s p h f (yes g) = (h.1 g).0.some
  some o s p h f (no g) = f (h.0 (omega arith))

  -- the script is kept
  held-some : (m : ℕ) → 0 < m → (s : List Open) (p : ℕ) → Held kept (in_script m s) p → 0 < p
  held-some m z [] p h = (h.1 (omega arith)).0.some
  held-some m z (o ∷ s) p h = some o (in_script m s) p h (held-some m z s p) (dec_lt 0 (to_come o))

  -- where the innermost has one child to come it is not the script
  pub inner-some : (m : ℕ) → 1 < m → (s : List Open) {a : Innermost} → Inner kept (in_script m s) a → a.word < 256 → 0 < a.under
  inner-some m z [] u h = absurd (omega (arith, u.is))
  inner-some m z (o ∷ s) u h = held-some m (omega arith) s _ u.under

  -- what is kept at p is the innermost of those that are left
  outer : (s : List Open) (p : ℕ) {b : Innermost} → 0 < p → b.word ≡ get_or kept p 0 → b.under ≡ p - 1 → Held kept s p → Inner kept (closed s) b
  outer s p {b} z eo eu =
      by_closing (λ s t. Held kept s p → Inner kept t b)
      (λ h. absurd (omega arith))
      (λ o s e f h. f (h.0 e))
      (λ o s y h. let k = h.1 y in record { is = eo ∙ k.0.is; under = rw eu k.1 })
      s

-- up to place p two tables are the same
abbrev Same : List ℕ → List ℕ → ℕ → Type 0
Same l l' p = (j : ℕ) → j ≤ p → get_or l' j 0 ≡ get_or l j 0

module _ (kept kept' : List ℕ) where
  held_same : (s : List Open) (p : ℕ) → Same kept kept' p → Held kept s p → Held kept' s p
  held_same [] p a h = h
  held_same (o ∷ s) p a h = (
    λ e. held_same s p a (h.0 e),
    λ g. let k = (h.1 g).0 in (
      record { some = k.some; is = a p (omega arith) ∙ k.is },
      held_same s (p - 1) (λ j u. a j (omega arith)) (h.1 g).1,
    ),
  )

-- what is picked, where the record has no children or not, and took the last place or not
pub record Picked (kept : List ℕ) (a : Innermost) (children rest : ℕ) (leaf done : Bool) (b : Innermost) : Type 0 where
  pub word : b.word ≡ cond leaf (cond done (get_or kept a.under 0) rest) (128 * children + a.word % 128 + 1)
  pub under : b.under ≡ a.under + cond leaf 0 1 - cond done 1 0

pub one_more_lem : (leaf : Bool) → cond leaf 0 1 ≤ 1
one_more_lem true = omega arith
one_more_lem false = omega arith

module _ (a : Innermost) (rest : ℕ) (er : rest ≡ a.word - 128) (some : 128 ≤ a.word) (last : a.word < 256 → 0 < a.under) where
  -- one place out, at the most, and never past the script
  pub no_less : (leaf done : Bool) → ltb rest 128 ≡ done → cond done 1 0 ≤ a.under + cond leaf 0 1
  no_less leaf true e = let h = last (omega (arith, ltb-true rest 128 e)) in omega arith
  no_less leaf false e = omega arith

  module _ (kept : List ℕ) (room : a.under + 1 < length kept) where
    abbrev kept' : List ℕ
    kept' = set kept (a.under + 1) rest

    same : Same kept kept' a.under
    same j h = get_or-set_other kept (a.under + 1) j rest 0 (λ z. omega arith)

    under_same : (s : List Open) → Held kept s a.under → Held kept' s a.under
    under_same s = held_same kept kept' s a.under same

    -- the last place is taken: the innermost has no child to come
    last_taken : rest < 128 → (s : List Open) → length s ≤ 64 → Inner kept s a → Held kept' (taken s) a.under
    last_taken z [] l u = absurd (omega (arith, u.is))
    last_taken z (o ∷ s) l u = (λ d. under_same s u.under, λ d. absurd (omega (arith, taken-one o.names o.others, u.is)))

    -- there are more: it is kept above the others, or stays by itself
    more_kept : 128 ≤ rest → (s : List Open) → length s ≤ 64 → Inner kept s a → Held kept' (taken s) (a.under + 1)
    more_kept z [] l u = absurd (omega (arith, u.is))
    more_kept z (o ∷ s) l u =
        let b : a.under ≡ a.under + 1 - 1 = omega arith in
        let t = taken-one o.names o.others in (
          λ d. absurd (omega (arith, u.is)),
          λ d. (
            record { some = omega arith; is = get_or-set_same kept (a.under + 1) rest 0 room ∙ omega (arith, u.is) },
            subst (Held kept' s) b (under_same s u.under),
          ),
        )

    more_stays : 128 ≤ rest → (s : List Open) → length s ≤ 64 → Inner kept s a → {b : Innermost} → b.word ≡ rest → b.under ≡ a.under → Inner kept' (closed (taken s)) b
    more_stays z [] l u eo eu = absurd (omega (arith, u.is))
    more_stays z (o ∷ s) l u {b} eo eu =
        let t = taken-one o.names o.others in
        subst (λ (t : List Open). Inner kept' t b) (sym (closed_open _ s (omega (arith, u.is))))
        (record { is = omega (arith, u.is); under = rw eu (under_same s u.under) })

    module _ (children : ℕ) (b : Innermost) where
      abbrev After : Type 0
      After = (s : List Open) (o : Open) → length s ≤ 64 → Inner kept s a → children ≡ to_come o → Inner kept' (closed (o ∷ taken s)) b

      -- the record is open itself
      opened : 0 < children → {p : ℕ} → ((s : List Open) → length s ≤ 64 → Inner kept s a → Held kept' (taken s) p) → b.word ≡ 128 * children + a.word % 128 + 1 → b.under ≡ p → After
      opened z f eo eu [] o l u ec = absurd (omega (arith, u.is))
      opened z f eo eu (q ∷ s) o l u ec =
          subst (λ (t : List Open). Inner kept' t b) (sym (closed_open o (taken (q ∷ s)) (omega arith)))
          (record { is = omega (arith, u.is); under = rw eu (f (q ∷ s) l u) })

      -- it is not
      passed : children ≡ 0 → ((s : List Open) → length s ≤ 64 → Inner kept s a → Inner kept' (closed (taken s)) b) → After
      passed z f s o l u ec = subst (λ (t : List Open). Inner kept' t b) (sym (closed_done o (taken s) (sym ec ∙ z))) (f s l u)

      by_picking : (leaf done : Bool) → eqb children 0 ≡ leaf → ltb rest 128 ≡ done → Picked kept a children rest leaf done b → After
      by_picking true true e f k =
          let z = ltb-true rest 128 f in
          passed (eqb-true children 0 e) (λ s l u.
          outer kept' (taken s) a.under (last (omega arith)) (k.word ∙ sym (same _ (omega arith))) (omega (arith, k.under)) (last_taken z s l u))
      by_picking true false e f k =
          let z = ltb-false rest 128 f in
          passed (eqb-true children 0 e) (λ s l u. more_stays z s l u k.word (omega (arith, k.under)))
      by_picking false true e f k =
          let y = eqb-false children 0 e in
          opened (omega arith) (last_taken (ltb-true rest 128 f)) k.word (omega (arith, k.under))
      by_picking false false e f k =
          let y = eqb-false children 0 e in
          opened (omega arith) (more_kept (ltb-false rest 128 f)) k.word (omega (arith, k.under))

      module _ (low : a.word ≤ 4294967295) (kept_low : get_or kept a.under 0 ≤ 4294967295) (small : children ≤ 513) where
        low_picked : (leaf done : Bool) → Picked kept a children rest leaf done b → b.word ≤ 4294967295
        low_picked true true k = omega (arith, k.word)
        low_picked true false k = omega (arith, k.word)
        low_picked false done k = omega (arith, k.word)

        pub steps : Picked kept a children rest (eqb children 0) (ltb rest 128) b → Steps kept a children kept' b
        steps k = record { long = length-set kept (a.under + 1) rest; few = low_picked (eqb children 0) (ltb rest 128) k; is = by_picking (eqb children 0) (ltb rest 128) refl refl k }
