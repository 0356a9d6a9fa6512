-- The operations on the live names of a table's rows.
use Prim.Native.Nat.{ℕ, zero, suc, ◌+◌, ◌-◌, ◌≤◌, ◌<◌}
use mathlib.Core.List.{List, [], ◌∷◌, ◌++◌}
use Rattle.std.specs.Prelude.{Bool, ◌&&◌, ◌||◌, ◌≡◌, get_or, Some, option_map}
use Rattle.std.proofs.Math.Bool.{true, false, cond}
use Rattle.std.proofs.Math.Path.{refl, ap}
use Rattle.std.proofs.Common.{sym, ◌∙◌}
use native.Mathlib.Omega.{arith}
use borrow.Author.Tests.{eqb-true, lt-ltb, le-ltb}
use Rattle.std.proofs.Math.ListN.{length}
use Rattle.std.proofs.Math.Dec.{eqb, ltb}
use Rattle.scope_map.specs.ScopeMap.{Live, is_at, has_in, replace_in, remove_in, layer_in, below_layer, get_in}
use Rattle.scope_map.proofs.Laws.Size.{below-size}
use Rattle.scope_map.specs.Rows.{row_at, live_in, rows_from}
use Rattle.scope_map.specs.Held.{found_at, found_in, entry_of, place_in}

pub length_live_in : (t : List ℕ) (n : ℕ) → length (live_in t n) ≡ n
unfolding live_in
length_live_in t zero = refl
length_live_in t (suc n) = ap suc (length_live_in t n)

-- the live name that is j names older than the newest
pub live_row : (t : List ℕ) (n j : ℕ) (d : Live ℕ) → j < n → get_or (live_in t n) j d ≡ row_at t (n - suc j)
unfolding live_in
live_row t zero j d h = absurd (omega arith)
live_row t (suc n) zero d h = let z : n ≡ suc n - 1 = omega arith in ap (row_at t) z
live_row t (suc n) (suc j) d h = let z : n - suc j ≡ suc n - suc (suc j) = omega arith in live_row t n j d (omega arith) ∙ ap (row_at t) z

pub live_next : (t : List ℕ) (n : ℕ) → live_in t (n + 1) ≡ row_at t n ∷ live_in t n
unfolding live_in
live_next t n = let z : n + 1 ≡ suc n = omega arith in rw z

pub live_same : (t t' : List ℕ) (n : ℕ) → ((k : ℕ) → k < n → row_at t' k ≡ row_at t k) → live_in t' n ≡ live_in t n
unfolding live_in
live_same t t' zero h = refl
live_same t t' (suc n) h = rw (h n (omega arith), live_same t t' n (λ k g. h k (omega arith)))

rows_last : (t : List ℕ) (i n : ℕ) → rows_from t i (suc n) ≡ rows_from t i n ++ (row_at t (i + n) ∷ [])
unfolding rows_from
rows_last t i zero = let z : i + 0 ≡ i = omega arith in rw z
rows_last t i (suc n) =
    let z : suc i + n ≡ i + suc n = omega arith in
    ap (λ (l : List (Live ℕ)). row_at t i ∷ l) (rows_last t (suc i) n ∙ rw z)

-- A lookup finds the newest of a name

pub found_get : (l : List (Live ℕ)) (x : ℕ) → option_map (entry_of x) (found_in l x) ≡ get_in l x
unfolding get_in found_in
found_get [] x = refl
found_get (e ∷ l) x = pick (eqb e.name x) refl (found_get l x)
  where
    pick : (b : Bool) → eqb e.name x ≡ b → option_map (entry_of x) (found_in l x) ≡ get_in l x →
        option_map (entry_of x) (cond b (Some (found_at (length l) e)) (found_in l x)) ≡ cond b (Some e) (get_in l x)
    pick true q r = ap (λ (y : ℕ). Some (record { name = y; layer = e.layer; value = e.value })) (sym (eqb-true _ _ q))
    pick false q r = r

-- The row of a name in the layer d, among n rows

module _ (d x n : ℕ) where
  pub place_below : (l : List (Live ℕ)) → place_in d x n l < n → place_in d x n l < length l
  unfolding place_in
  place_below [] g = absurd (omega arith)
  place_below (e ∷ l) g = pick (is_at d x e) g (place_below l)
    where
      pick : (b : Bool) → cond b (length l) (place_in d x n l) < n → (place_in d x n l < n → place_in d x n l < length l) →
          cond b (length l) (place_in d x n l) < suc (length l)
      pick true g r = omega arith
      pick false g r = omega (arith, r g)

  pub place_has : (l : List (Live ℕ)) → length l ≤ n → ltb (place_in d x n l) n ≡ has_in d x l
  unfolding has_in place_in
  place_has [] h = le-ltb n n (omega arith)
  place_has (e ∷ l) h = pick (is_at d x e) (place_has l (omega arith))
    where
      pick : (b : Bool) → ltb (place_in d x n l) n ≡ has_in d x l → ltb (cond b (length l) (place_in d x n l)) n ≡ b || has_in d x l
      pick true r = lt-ltb (length l) n (omega arith)
      pick false r = r

  pub place_name : (t : List ℕ) (i p : ℕ) → p ≡ place_in d x n (live_in t i) → p < n → (row_at t p).name ≡ x
  unfolding live_in place_in
  place_name t zero p e g = absurd (omega arith)
  place_name t (suc i) p e g = pick (eqb (row_at t i).layer d) (eqb (row_at t i).name x) refl e (λ y. place_name t i p y g)
    where
      pick : (a b : Bool) → eqb (row_at t i).name x ≡ b → p ≡ cond (a && b) (length (live_in t i)) (place_in d x n (live_in t i)) →
          (p ≡ place_in d x n (live_in t i) → (row_at t p).name ≡ x) → (row_at t p).name ≡ x
      pick true true q e r = ap (λ (k : ℕ). (row_at t k).name) (e ∙ length_live_in t i) ∙ eqb-true _ _ q
      pick true false q e r = r e
      pick false b q e r = r e

  module _ (t t' : List ℕ) where
    -- the row of the name, p, is written, and no other
    pub record Replaced (v p : ℕ) : Type 0 where
      pub found : p < n
      pub row : row_at t' p ≡ record { name = x; layer = d; value = v }
      pub others : (k : ℕ) → (k ≡ p → ⊥) → row_at t' k ≡ row_at t k

    pub replace_live_in : (v i : ℕ) → Replaced v (place_in d x n (live_in t i)) → live_in t' i ≡ replace_in d x v (live_in t i)
    unfolding replace_in live_in place_in
    replace_live_in v zero g = absurd (omega (arith, g.found))
    replace_live_in v (suc i) g = pick (is_at d x (row_at t i)) g (replace_live_in v i)
      where
        pick : (b : Bool) → Replaced v (cond b (length (live_in t i)) (place_in d x n (live_in t i))) →
            (Replaced v (place_in d x n (live_in t i)) → live_in t' i ≡ replace_in d x v (live_in t i)) →
            row_at t' i ∷ live_in t' i ≡ cond b (record { name = x; layer = d; value = v } ∷ live_in t i) (row_at t i ∷ replace_in d x v (live_in t i))
        pick true g r =
            let z = length_live_in t i in
            let q : row_at t' i ≡ record { name = x; layer = d; value = v } = ap (row_at t') (sym z) ∙ g.row in
            rw (q, live_same t t' i (λ k h. g.others k (λ y. omega arith)))
        pick false g r =
            let z = length_live_in t i in
            let p = place_below (live_in t i) g.found in
            rw (g.others i (λ y. omega arith), r g)

    -- the row of the name, p, is gone, and those after it, up to row i, have moved down
    pub record Gone (p i : ℕ) : Type 0 where
      pub found : p < n
      pub under : (k : ℕ) → k < p → row_at t' k ≡ row_at t k
      pub over : (k : ℕ) → p ≤ k → k < i → row_at t' k ≡ row_at t (suc k)

    gone_step : (i : ℕ) (b : Bool) → Gone (cond b (length (live_in t i)) (place_in d x n (live_in t i))) i →
        (Gone (place_in d x n (live_in t i)) i → live_in t' i ≡ row_at t i ∷ remove_in d x (live_in t i)) →
        live_in t' i ≡ cond b (live_in t i) (row_at t i ∷ remove_in d x (live_in t i))
    gone_step i true g r = let z = length_live_in t i in live_same t t' i (λ k h. g.under k (omega arith))
    gone_step i false g r = r g

    pub remove_live_in : (i : ℕ) → Gone (place_in d x n (live_in t (suc i))) i → live_in t' i ≡ remove_in d x (live_in t (suc i))
    unfolding remove_in live_in place_in
    remove_live_in zero g = gone_step zero (is_at d x (row_at t zero)) g (λ g. absurd (omega (arith, g.found)))
    remove_live_in (suc i) g =
        gone_step (suc i) (is_at d x (row_at t (suc i))) g
        (λ g.
        let z = length_live_in t (suc i) in
        let p = place_below (live_in t (suc i)) g.found in
        let r = remove_live_in i (record { found = g.found; under = g.under; over = λ k a b. g.over k a (omega arith) }) in
        rw (g.over i (omega arith) (omega arith), r))

-- a name that the layer d has not
pub remove_absent : {A : Type 0} (d x : ℕ) (l : List (Live A)) → has_in d x l ≡ false → remove_in d x l ≡ l
unfolding has_in remove_in
remove_absent d x [] h = refl
remove_absent {A} d x (e ∷ l) h = pick (is_at d x e) h (remove_absent d x l)
  where
    pick : (b : Bool) → b || has_in d x l ≡ false → (has_in d x l ≡ false → remove_in d x l ≡ l) → cond b l (e ∷ remove_in d x l) ≡ e ∷ l
    pick true h r = absurd (let z : ◌≡◌ {A = ℕ} 0 1 = cc in omega arith)
    pick false h r = ap (λ (k : List (Live A)). e ∷ k) (r h)

-- The newest layer's rows follow those below it

pub layer_live_in : (t : List ℕ) (d n : ℕ) → let r = length (below_layer d (live_in t n)) in layer_in d (live_in t n) ≡ rows_from t r (n - r)
unfolding layer_in below_layer live_in rows_from
layer_live_in t d zero = refl
layer_live_in t d (suc n) = pick (eqb (row_at t n).layer d) (layer_live_in t d n)
  where
    pick : (b : Bool) → let s = length (below_layer d (live_in t n)) in let r = length (cond b (below_layer d (live_in t n)) (live_in t (suc n))) in
        layer_in d (live_in t n) ≡ rows_from t s (n - s) →
        cond b (layer_in d (live_in t n) ++ (row_at t n ∷ [])) [] ≡ rows_from t r (suc n - r)
    pick true q =
        let s = length (below_layer d (live_in t n)) in
        let m : s ≤ n = omega (arith, below-size d (live_in t n), length_live_in t n) in
        let a : suc n - s ≡ suc (n - s) = omega arith in
        let b : s + (n - s) ≡ n = omega arith in
        ap (λ (l : List (Live ℕ)). l ++ (row_at t n ∷ [])) q
        ∙ ap (λ (k : ℕ). rows_from t s (n - s) ++ (row_at t k ∷ [])) (sym b)
        ∙ sym (rows_last t s (n - s))
        ∙ ap (λ (k : ℕ). rows_from t s k) (sym a)
    pick false q = let z : suc n - length (live_in t (suc n)) ≡ 0 = omega (arith, length_live_in t (suc n)) in rw z
