-- How many names are live after an operation.
use Prim.Native.Nat.{ℕ, suc, ◌-◌, ◌≤◌}
use mathlib.Core.List.{List, [], ◌∷◌}
use Rattle.std.specs.Prelude.{Bool, cond, ◌≡◌, eqb, ltb}
use Rattle.std.proofs.Math.Bool.{true, false}
use Rattle.std.proofs.Math.Path.{refl, ap}
use native.Mathlib.Omega.{arith}
use Rattle.std.proofs.Math.ListN.{length}
use Rattle.scope_map.specs.ScopeMap.{Live, ScopeMap, is_at, replace_in, remove_in, below_layer, pop_layer, has_at_top, define, remove}

module _ {A : Type 0} where
  pub replace_size : (d x : ℕ) (v : A) (l : List (Live A)) → length (replace_in d x v l) ≡ length l
  unfolding replace_in
  replace_size d x v [] = refl
  replace_size d x v (e ∷ l) = pick (is_at d x e) (replace_size d x v l)
    where
      pick : (b : Bool) → length (replace_in d x v l) ≡ length l →
          length (cond b (record { name = x; layer = d; value = v } ∷ l) (e ∷ replace_in d x v l)) ≡ suc (length l)
      pick true r = refl
      pick false r = ap suc r

  pub remove_size_in : (d x : ℕ) (l : List (Live A)) → length (remove_in d x l) ≤ length l
  unfolding remove_in
  remove_size_in d x [] = omega arith
  remove_size_in d x (e ∷ l) = pick (is_at d x e) (remove_size_in d x l)
    where
      pick : (b : Bool) → length (remove_in d x l) ≤ length l → length (cond b l (e ∷ remove_in d x l)) ≤ suc (length l)
      pick true r = omega arith
      pick false r = omega arith

  pub below-size : (d : ℕ) (l : List (Live A)) → length (below_layer d l) ≤ length l
  unfolding below_layer
  below-size d [] = omega arith
  below-size d (e ∷ l) = pick (eqb e.layer d) (below-size d l)
    where
      pick : (b : Bool) → length (below_layer d l) ≤ length l → length (cond b (below_layer d l) (e ∷ l)) ≤ suc (length l)
      pick true r = omega arith
      pick false r = omega arith

  pub define-size : (x : ℕ) (v : A) (m : ScopeMap A) → length (define x v m).live ≤ suc (length m.live)
  define-size x v m = pick (has_at_top m x)
    where
      pick : (b : Bool) → length (cond b (replace_in m.depth x v m.live) (record { name = x; layer = m.depth; value = v } ∷ m.live)) ≤ suc (length m.live)
      pick true = omega (arith, replace_size m.depth x v m.live)
      pick false = omega arith

  pub remove-size : (x : ℕ) (m : ScopeMap A) → length (remove x m).live ≤ length m.live
  remove-size x m = remove_size_in m.depth x m.live

  pub pop_size : (m : ScopeMap A) → length (pop_layer m).live ≤ length m.live
  pop_size m = pick (ltb 1 m.depth)
    where
      pick : (b : Bool) → length (cond b (record { depth = m.depth - 1; live = below_layer m.depth m.live }) m).live ≤ length m.live
      pick true = below-size m.depth m.live
      pick false = omega arith
