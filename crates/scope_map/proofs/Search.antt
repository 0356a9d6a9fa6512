-- One turn of a search from the newest row down, at row i - 1, and its end. The search is a function of the live names that goes by a
-- test of the newest.
use Prim.Native.Nat.{ℕ, zero, suc, ◌-◌, ◌≤◌, ◌<◌}
use mathlib.Core.List.{List, [], ◌∷◌}
use mathlib.Core.Bool.{Bool, true, false, cond}
use mathlib.Core.Path.{◌≡◌, refl, ap, sym, ◌∙◌}
use native.Mathlib.Omega.{arith}
use borrow.Author.Tests.{eqb-true, eqb-false}
use lib.Dec.{eqb}
use Rattle.scope_map.specs.ScopeMap.{Live}
use Rattle.scope_map.specs.Rows.{row_at, live_in}
use Rattle.scope_map.specs.Hints.{Indexed, Bounds}

pub record Search {A : Type 0} (f : List (Live ℕ) → A) : Type 0 where
  pub test : Live ℕ → Bool
  pub hit : Live ℕ → List (Live ℕ) → A
  pub step : (e : Live ℕ) (l : List (Live ℕ)) → f (e ∷ l) ≡ cond (test e) (hit e l) (f l)

module _ {A : Type 0} {f : List (Live ℕ) → A} (s : Search f) (t : List ℕ) where
  turn : (i : ℕ) (b : Bool) → 0 < i → s.test (row_at t (i - 1)) ≡ b →
      f (live_in t i) ≡ cond b (s.hit (row_at t (i - 1)) (live_in t (i - 1))) (f (live_in t (i - 1)))
  unfolding live_in
  turn zero b h e = absurd (omega arith)
  turn (suc k) b h e =
      let z : suc k - 1 ≡ k = omega arith in
      let q : s.test (row_at t k) ≡ b = rw z at e in
      rw z (s.step (row_at t k) (live_in t k) ∙ ap (λ (b : Bool). cond b (s.hit (row_at t k) (live_in t k)) (f (live_in t k))) q)

  pub hits : (i : ℕ) → 0 < i → s.test (row_at t (i - 1)) ≡ true → f (live_in t i) ≡ s.hit (row_at t (i - 1)) (live_in t (i - 1))
  hits i h e = turn i true h e

  pub misses : (i : ℕ) → 0 < i → s.test (row_at t (i - 1)) ≡ false → f (live_in t i) ≡ f (live_in t (i - 1))
  misses i h e = turn i false h e

  pub ends : (i : ℕ) → i ≤ 0 → f (live_in t i) ≡ f []
  unfolding live_in
  ends zero h = refl
  ends (suc k) h = absurd (omega arith)

  -- rows that the test fails need not be looked at
  skips : (r n : ℕ) → r ≤ n → ((i : ℕ) → r ≤ i → i < n → s.test (row_at t i) ≡ false) → f (live_in t n) ≡ f (live_in t r)
  skips r zero h g = let z : zero ≡ r = omega arith in ap (λ (k : ℕ). f (live_in t k)) z
  skips r (suc n) h g = pick (eqb r (suc n)) refl (λ l. skips r n l (λ i a b. g i a (omega arith)))
    where
      pick : (b : Bool) → eqb r (suc n) ≡ b → (r ≤ n → f (live_in t n) ≡ f (live_in t r)) → f (live_in t (suc n)) ≡ f (live_in t r)
      pick true q k = ap (λ (j : ℕ). f (live_in t j)) (sym (eqb-true r (suc n) q))
      pick false q k =
          let z = eqb-false r (suc n) q in
          let y : n ≡ suc n - 1 = omega arith in
          misses (suc n) (omega arith) (ap (λ (i : ℕ). s.test (row_at t i)) (sym y) ∙ g n (omega arith) (omega arith))
          ∙ ap (λ (i : ℕ). f (live_in t i)) (sym y)
          ∙ k (omega arith)

  -- a search for a name may start where its rows end
  pub from_bound : {n x r : ℕ} → ((e : Live ℕ) → (e.name ≡ x → ⊥) → s.test e ≡ false) → Bounds n t x r → Indexed n t → f (live_in t r) ≡ f (live_in t n)
  from_bound {n} {r = r} other b i = sym (skips r n b.most (λ k g h. other (row_at t k) (b.over i k g h)))
