-- Several elements of a list written one after another.
use Prim.Native.Nat.{ℕ, zero, suc, ◌+◌, ◌-◌, ◌*◌, ◌≤◌, ◌<◌}
use mathlib.Core.List.{List, [], ◌∷◌, ◌++◌, append_assoc}
use Rattle.std.specs.Prelude.{◌≡◌, get_or, set, drop, take}
use Rattle.std.proofs.Math.Path.{refl, ap}
use Rattle.std.proofs.Common.{sym, ◌∙◌, arith, add-one, length-drop, take-append-drop, set-set, get_or-set_other, drop-cons, drop-drop, drop_at, take_at, length-take-le}
use Rattle.std.proofs.Math.ListN.{length, length-set}
use Rattle.std.proofs.Math.Seq.{sets, drop-nil, take-nil}
use Rattle.std.proofs.lemmas.List.Edits.{sets-eq}
use Rattle.std.proofs.lemmas.List.{set_comm}
use Rattle.table.specs.Layout.{layout}
use Rattle.table.specs.Laws.Layout.{sets_layout}

module _ {A : Type 0} where
  -- before them, one more
  pub set_sets : (l : List A) (i j : ℕ) (a : A) (vs : List A) → i < j → set (sets l j vs) i a ≡ sets (set l i a) j vs
  set_sets l i j a [] h = refl
  set_sets l i j a (v ∷ vs) h =
      set_sets (set l j v) i (suc j) a vs (omega arith) ∙ ap (λ (m : List A). sets m (suc j) vs) (set_comm l j i v a (λ e. omega arith))

  pub get_d_sets : (l : List A) (i j : ℕ) (d : A) (vs : List A) → i < j → get_or (sets l j vs) i d ≡ get_or l i d
  get_d_sets l i j d [] h = refl
  get_d_sets l i j d (v ∷ vs) h = get_d_sets (set l j v) i (suc j) d vs (omega arith) ∙ get_or-set_other l j i v d (λ e. omega arith)

  -- after them
  pub get_d_after : (l : List A) (j i : ℕ) (d : A) (vs : List A) → i + length vs ≤ j → get_or (sets l i vs) j d ≡ get_or l j d
  get_d_after l j i d [] h = refl
  get_d_after l j i d (v ∷ vs) h = get_d_after (set l i v) j (suc i) d vs (omega arith) ∙ get_or-set_other l i j v d (λ e. omega arith)

  pub sets_append : (l : List A) (i : ℕ) (xs ys : List A) → sets l i (xs ++ ys) ≡ sets (sets l i xs) (i + length xs) ys
  sets_append l i [] ys = let z : i ≡ i + 0 = omega arith in ap (λ (k : ℕ). sets l k ys) z
  sets_append l i (x ∷ xs) ys =
      let z : suc i + length xs ≡ i + length (x ∷ xs) = omega arith in
      sets_append (set l i x) (suc i) xs ys ∙ ap (λ (k : ℕ). sets (sets (set l i x) (suc i) xs) k ys) z

  -- written over
  pub sets_sets : (l : List A) (i : ℕ) (xs ys : List A) → length xs ≤ length ys → sets (sets l i xs) i ys ≡ sets l i ys
  sets_sets l i [] ys h = refl
  sets_sets l i (x ∷ xs) [] h = absurd (omega arith)
  sets_sets l i (x ∷ xs) (y ∷ ys) h =
      ap (λ (m : List A). sets m (suc i) ys) (set_sets (set l i x) i (suc i) y xs (omega arith))
      ∙ ap (λ (m : List A). sets (sets m (suc i) xs) (suc i) ys) (set-set l i x y)
      ∙ sets_sets (set l i y) (suc i) xs ys (omega arith)

  -- read back
  pub sets_back : (l : List A) (i : ℕ) (vs : List A) → i + length vs ≤ length l → take (length vs) (drop i (sets l i vs)) ≡ vs
  sets_back l i vs h =
      ap (λ (m : List A). take (length vs) (drop i m)) (sets-eq vs l i h ∙ append_assoc (take i l) vs (drop (i + length vs) l))
      ∙ ap (take (length vs)) (drop_at (take i l) (vs ++ drop (i + length vs) l) i (length-take-le i l (omega arith)))
      ∙ take_at vs (drop (i + length vs) l) (length vs) refl

  -- what stands there
  pub sets_same : (l : List A) (i n : ℕ) → i + n ≤ length l → sets l i (take n (drop i l)) ≡ l
  sets_same l i n h =
      let m : length (take n (drop i l)) ≡ n = length-take-le n (drop i l) (omega (arith, length-drop i l)) in
      sets-eq (take n (drop i l)) l i (omega arith)
      ∙ ap (λ (k : ℕ). take i l ++ take n (drop i l) ++ drop (i + k) l) m
      ∙ ap (λ (r : List A). take i l ++ take n (drop i l) ++ r) (sym (drop-drop n i l))
      ∙ append_assoc (take i l) (take n (drop i l)) (drop n (drop i l))
      ∙ ap (λ (r : List A). take i l ++ r) (take-append-drop n (drop i l))
      ∙ take-append-drop i l

  pub drop-take : (k n : ℕ) (l : List A) → drop k (take n l) ≡ take (n - k) (drop k l)
  drop-take zero n l = let z : n - 0 ≡ n = omega arith in ap (λ (m : ℕ). take m l) (sym z)
  drop-take (suc k) zero l =
      let z : 0 - suc k ≡ 0 = omega arith in drop-nil (suc k) ∙ ap (λ (m : ℕ). take m (drop (suc k) l)) (sym z)
  drop-take (suc k) (suc n) [] = drop-nil (suc k) ∙ sym (take-nil (suc n - suc k))
  drop-take (suc k) (suc n) (a ∷ l) = let z : suc n - suc k ≡ n - k = omega arith in drop-take k n l ∙ ap (λ (m : ℕ). take m (drop k l)) (sym z)

  -- from i up to j
  pub rows_next : (l : List A) (i j : ℕ) (d : A) → i < j → j ≤ length l
      → take (j - i) (drop i l) ≡ get_or l i d ∷ take (j - (i + 1)) (drop (i + 1) l)
  rows_next l i j d h g =
      let z : j - i ≡ suc (j - (i + 1)) = omega arith in
      ap (λ (n : ℕ). take n (drop i l)) z
      ∙ ap (take (suc (j - (i + 1)))) (drop-cons l i d (omega arith))
      ∙ ap (λ (n : ℕ). get_or l i d ∷ take (j - (i + 1)) (drop n l)) (sym (add-one i))

  pub rows_none : (l : List A) (i : ℕ) → take (i - i) (drop i l) ≡ []
  rows_none l i = let z : i - i ≡ 0 = omega arith in ap (λ (n : ℕ). take n (drop i l)) z

-- rows of a table written one after another
module _ {A : Type 0} (W : ℕ) (put : A → List ℕ) (long : (a : A) → length (put a) ≡ W) where
  pub sets_rows : (bs l : List A) (i : ℕ) → i + length bs ≤ length l → sets (layout put l) (W * i) (layout put bs) ≡ layout put (sets l i bs)
  unfolding layout
  sets_rows [] l i h = refl
  sets_rows (b ∷ bs) l i h =
      let z : W * i + length (put b) ≡ W * suc i = omega (arith, long b) in
      sets_append (layout put l) (W * i) (put b) (layout put bs)
      ∙ ap (λ (m : List ℕ). sets m (W * i + length (put b)) (layout put bs)) (sets_layout W put long l i b (omega arith))
      ∙ ap (λ (k : ℕ). sets (layout put (set l i b)) k (layout put bs)) z
      ∙ sets_rows bs (set l i b) (suc i) (omega (arith, length-set l i b))
