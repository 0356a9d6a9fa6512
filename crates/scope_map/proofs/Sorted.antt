-- The layers of live names do not fall, so the newest of a name decides whether the newest layer has it.
use Prim.Native.Nat.{ℕ, ◌-◌, ◌≤◌, ◌<◌}
use mathlib.Core.List.{List, [], ◌∷◌}
use mathlib.Core.Bool.{Bool, true, false, cond, ◌&&◌}
use mathlib.Core.Path.{◌≡◌, refl, subst}
use native.Mathlib.Omega.{arith}
use borrow.Author.Tests.{eqb-true, eqb-false}
use lib.ListN.{length}
use lib.Dec.{eqb}
use Rattle.std.specs.Prelude.{Option, None, Some}
use Rattle.scope_map.specs.ScopeMap.{Live, is_at, replace_in, remove_in, below_layer}
use Rattle.scope_map.specs.Held.{Sorted, found_at, found_in, place_in}
use Rattle.scope_map.specs.declared.Found.{Found}

pub sorted_over : {c d : ℕ} (l : List (Live ℕ)) → c ≤ d → Sorted c l → Sorted d l
unfolding Sorted
sorted_over [] h o = tt
sorted_over (e ∷ l) h o = (omega (arith, o.0), o.1)

pub sorted_below : (d : ℕ) (l : List (Live ℕ)) → Sorted d l → Sorted (d - 1) (below_layer d l)
unfolding Sorted below_layer
sorted_below d [] o = tt
sorted_below d (e ∷ l) o = pick (eqb e.layer d) refl (λ k. sorted_below d l k)
  where
    pick : (b : Bool) → eqb e.layer d ≡ b → (Sorted d l → Sorted (d - 1) (below_layer d l)) → Sorted (d - 1) (cond b (below_layer d l) (e ∷ l))
    pick true q r = r (sorted_over l o.0 o.1)
    pick false q r = let z = eqb-false e.layer d q in (omega (arith, o.0), o.1)

pub sorted_remove : (d x c : ℕ) (l : List (Live ℕ)) → Sorted c l → Sorted c (remove_in d x l)
unfolding Sorted remove_in
sorted_remove d x c [] o = tt
sorted_remove d x c (e ∷ l) o = pick (is_at d x e) (sorted_remove d x e.layer l o.1)
  where
    pick : (b : Bool) → Sorted e.layer (remove_in d x l) → Sorted c (cond b l (e ∷ remove_in d x l))
    pick true r = sorted_over l o.0 o.1
    pick false r = (o.0, r)

at_layer : (d x : ℕ) (e : Live ℕ) → is_at d x e ≡ true → e.layer ≡ d
at_layer d x e q = eqb-true e.layer d (first (eqb e.layer d) q)
  where
    first : (b : Bool) → b && eqb e.name x ≡ true → b ≡ true
    first true q = refl
    first false q = q

pub sorted_replace : (d x v c : ℕ) (l : List (Live ℕ)) → Sorted c l → Sorted c (replace_in d x v l)
unfolding Sorted replace_in
sorted_replace d x v c [] o = tt
sorted_replace d x v c (e ∷ l) o = pick (is_at d x e) refl (sorted_replace d x v e.layer l o.1)
  where
    pick : (b : Bool) → is_at d x e ≡ b → Sorted e.layer (replace_in d x v l) →
        Sorted c (cond b (record { name = x; layer = d; value = v } ∷ l) (e ∷ replace_in d x v l))
    pick true q r = let z = at_layer d x e q in (omega (arith, o.0), subst (λ (k : ℕ). Sorted k l) z o.1)
    pick false q r = (o.0, r)

-- The place of a name in the newest layer, by what a lookup finds

abbrev pub place_found : ℕ → ℕ → Option Found → ℕ
place_found d n (Some f) = cond (eqb f.layer d) f.row n
place_found d n None = n

module _ (d x n : ℕ) where
  -- no layer is the newest
  place_older : {c : ℕ} (l : List (Live ℕ)) → c < d → Sorted c l → place_in d x n l ≡ n
  unfolding Sorted place_in
  place_older [] h o = refl
  place_older {c} (e ∷ l) h o = pick (eqb e.layer d) refl (place_older l (omega (arith, o.0)) o.1)
    where
      pick : (b : Bool) → eqb e.layer d ≡ b → place_in d x n l ≡ n → cond (b && eqb e.name x) (length l) (place_in d x n l) ≡ n
      pick true q r = absurd (omega (arith, eqb-true e.layer d q, o.0))
      pick false q r = r

  pub place_found_lem : (l : List (Live ℕ)) → Sorted d l → place_in d x n l ≡ place_found d n (found_in l x)
  unfolding Sorted place_in found_in
  place_found_lem [] o = refl
  place_found_lem (e ∷ l) o = pick (eqb e.layer d) refl (eqb e.name x) (place_found_lem l (sorted_over l o.0 o.1))
    where
      pick : (a : Bool) → eqb e.layer d ≡ a → (b : Bool) → place_in d x n l ≡ place_found d n (found_in l x) →
          cond (a && b) (length l) (place_in d x n l) ≡ place_found d n (cond b (Some (found_at (length l) e)) (found_in l x))
      pick true q true r = rw q
      pick false q true r = let z = eqb-false e.layer d q in rw q (place_older l (omega (arith, o.0)) o.1)
      pick true q false r = r
      pick false q false r = r
