-- The operations do not look at the values: each commutes with a function on them.
use Prim.Native.Nat.{ℕ, zero, suc, ◌-◌}
use mathlib.Core.List.{List, [], ◌∷◌, ◌++◌}
use Rattle.std.specs.Prelude.{Bool, ◌||◌, length, get_or, eqb, ltb, Some, option_map}
use Rattle.std.proofs.Math.Bool.{true, false, cond}
use Rattle.std.proofs.Math.Path.{◌≡◌, refl, ap}
use Rattle.std.proofs.Common.{◌∙◌}
use Rattle.scope_map.specs.Map.{map_value, map_live, map_values}
use Rattle.scope_map.specs.ScopeMap.{Live, ScopeMap, is_at, has_in, replace_in, remove_in, layer_in, below_layer, get_in, new, get, push_layer, has_at_top, define, remove, newest_layer, pop_layer}

module _ {A : Type 0} {B : Type 0} (f : A → B) where
  -- On lists

  pub map-length : (l : List (Live A)) → length (map_live f l) ≡ length l
  unfolding map_live
  map-length [] = refl
  map-length (e ∷ l) = ap suc (map-length l)

  pub map_get_d : (l : List (Live A)) (i : ℕ) (d : Live A) → get_or (map_live f l) i (map_value f d) ≡ map_value f (get_or l i d)
  unfolding map_live
  map_get_d [] i d = refl
  map_get_d (e ∷ l) zero d = refl
  map_get_d (e ∷ l) (suc i) d = map_get_d l i d

  map-append : (l r : List (Live A)) → map_live f (l ++ r) ≡ map_live f l ++ map_live f r
  unfolding map_live
  map-append [] r = refl
  map-append (e ∷ l) r = ap (λ (k : List (Live B)). map_value f e ∷ k) (map-append l r)

  map-get_in : (l : List (Live A)) (x : ℕ) → get_in (map_live f l) x ≡ option_map (map_value f) (get_in l x)
  unfolding map_live get_in
  map-get_in [] x = refl
  map-get_in (e ∷ l) x = pick (eqb e.name x) (map-get_in l x)
    where
      pick : (b : Bool) → get_in (map_live f l) x ≡ option_map (map_value f) (get_in l x) →
          cond b (Some (map_value f e)) (get_in (map_live f l) x) ≡ option_map (map_value f) (cond b (Some e) (get_in l x))
      pick true r = refl
      pick false r = r

  map-has_in : (d x : ℕ) (l : List (Live A)) → has_in d x (map_live f l) ≡ has_in d x l
  unfolding map_live has_in
  map-has_in d x [] = refl
  map-has_in d x (e ∷ l) = ap (λ (b : Bool). is_at d x e || b) (map-has_in d x l)

  map-replace_in : (d x : ℕ) (v : A) (l : List (Live A)) → map_live f (replace_in d x v l) ≡ replace_in d x (f v) (map_live f l)
  unfolding map_live replace_in
  map-replace_in d x v [] = refl
  map-replace_in d x v (e ∷ l) = pick (is_at d x e) (map-replace_in d x v l)
    where
      pick : (b : Bool) → map_live f (replace_in d x v l) ≡ replace_in d x (f v) (map_live f l) →
          map_live f (cond b (record { name = x; layer = d; value = v } ∷ l) (e ∷ replace_in d x v l))
          ≡ cond b (record { name = x; layer = d; value = f v } ∷ map_live f l) (map_value f e ∷ replace_in d x (f v) (map_live f l))
      pick true r = refl
      pick false r = ap (λ (k : List (Live B)). map_value f e ∷ k) r

  map-remove_in : (d x : ℕ) (l : List (Live A)) → map_live f (remove_in d x l) ≡ remove_in d x (map_live f l)
  unfolding map_live remove_in
  map-remove_in d x [] = refl
  map-remove_in d x (e ∷ l) = pick (is_at d x e) (map-remove_in d x l)
    where
      pick : (b : Bool) → map_live f (remove_in d x l) ≡ remove_in d x (map_live f l) →
          map_live f (cond b l (e ∷ remove_in d x l)) ≡ cond b (map_live f l) (map_value f e ∷ remove_in d x (map_live f l))
      pick true r = refl
      pick false r = ap (λ (k : List (Live B)). map_value f e ∷ k) r

  map-layer_in : (d : ℕ) (l : List (Live A)) → map_live f (layer_in d l) ≡ layer_in d (map_live f l)
  unfolding map_live layer_in
  map-layer_in d [] = refl
  map-layer_in d (e ∷ l) = pick (eqb e.layer d) (map-layer_in d l)
    where
      pick : (b : Bool) → map_live f (layer_in d l) ≡ layer_in d (map_live f l) →
          map_live f (cond b (layer_in d l ++ (e ∷ [])) []) ≡ cond b (layer_in d (map_live f l) ++ (map_value f e ∷ [])) []
      pick true r = map-append (layer_in d l) (e ∷ []) ∙ ap (λ (k : List (Live B)). k ++ (map_value f e ∷ [])) r
      pick false r = refl

  pub map-below_layer : (d : ℕ) (l : List (Live A)) → map_live f (below_layer d l) ≡ below_layer d (map_live f l)
  unfolding map_live below_layer
  map-below_layer d [] = refl
  map-below_layer d (e ∷ l) = pick (eqb e.layer d) (map-below_layer d l)
    where
      pick : (b : Bool) → map_live f (below_layer d l) ≡ below_layer d (map_live f l) →
          map_live f (cond b (below_layer d l) (e ∷ l)) ≡ cond b (below_layer d (map_live f l)) (map_value f e ∷ map_live f l)
      pick true r = r
      pick false r = refl

  -- On maps

  pub map-new : map_values f new ≡ new
  unfolding map_live
  map-new = refl

  pub map_get : (m : ScopeMap A) (x : ℕ) → get (map_values f m) x ≡ option_map (map_value f) (get m x)
  map_get m x = map-get_in m.live x

  pub map-push_layer : (m : ScopeMap A) → map_values f (push_layer m) ≡ push_layer (map_values f m)
  map-push_layer m = refl

  pub map-has_at_top : (m : ScopeMap A) (x : ℕ) → has_at_top (map_values f m) x ≡ has_at_top m x
  map-has_at_top m x = map-has_in m.depth x m.live

  pub map-define : (x : ℕ) (v : A) (m : ScopeMap A) → map_values f (define x v m) ≡ define x (f v) (map_values f m)
  unfolding map_live
  map-define x v m = rw map-has_at_top (pick (has_at_top m x))
    where
      pick : (b : Bool) → ◌≡◌ {A = ScopeMap B}
          (record { depth = m.depth; live = map_live f (cond b (replace_in m.depth x v m.live) (record { name = x; layer = m.depth; value = v } ∷ m.live)) })
          (record { depth = m.depth; live = cond b (replace_in m.depth x (f v) (map_live f m.live)) (record { name = x; layer = m.depth; value = f v } ∷ map_live f m.live) })
      pick true = rw map-replace_in
      pick false = refl

  pub map-remove : (x : ℕ) (m : ScopeMap A) → map_values f (remove x m) ≡ remove x (map_values f m)
  map-remove x m = rw map-remove_in

  pub map-newest_layer : (m : ScopeMap A) → map_live f (newest_layer m) ≡ newest_layer (map_values f m)
  map-newest_layer m = map-layer_in m.depth m.live

  pub map-pop_layer : (m : ScopeMap A) → map_values f (pop_layer m) ≡ pop_layer (map_values f m)
  map-pop_layer m = pick (ltb 1 m.depth)
    where
      pick : (b : Bool) →
          map_values f (cond b (record { depth = m.depth - 1; live = below_layer m.depth m.live }) m)
          ≡ cond b (record { depth = m.depth - 1; live = below_layer m.depth (map_live f m.live) }) (map_values f m)
      pick true = rw map-below_layer
      pick false = refl
