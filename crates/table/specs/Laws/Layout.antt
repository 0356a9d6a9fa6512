-- The laws of tables, W numbers a row, proved once for every kind of row.
use Prim.Native.Nat.{ℕ, zero, suc, ◌+◌, ◌-◌, ◌*◌, ◌<◌}
use mathlib.Core.List.{List, [], ◌∷◌, ◌++◌, append_assoc}
use Rattle.std.specs.Prelude.{◌≡◌, refl}
use Rattle.std.proofs.Math.Path.{ap}
use Rattle.std.proofs.Common.{sym, ◌∙◌, drop_at}
use native.Mathlib.Omega.{arith}
use Rattle.std.proofs.Math.ListN.{length, get_or, set, drop, take, replicate, length-append, replicate-append-replicate, get_or-append}
use Rattle.std.proofs.Math.Seq.{sets, get_or-append-add, set-append_left, take_at, drop-append-add, drop-nil}
use Rattle.std.proofs.lemmas.List.{set-append_right}
use Rattle.std.proofs.lemmas.List.Edits.{sets-eq}
use Rattle.table.specs.Layout.{layout}

set-append-add : (xs ys : List ℕ) (n x : ℕ) → set (xs ++ ys) (length xs + n) x ≡ xs ++ set ys n x
set-append-add xs ys n x =
    let e : length xs + n - length xs ≡ n = omega arith in
    set-append_right xs ys (length xs) (length xs + n) x refl (omega arith) ∙ ap (λ (k : ℕ). xs ++ set ys k x) e

sets_append-add : (vs xs ys : List ℕ) (n : ℕ) → sets (xs ++ ys) (length xs + n) vs ≡ xs ++ sets ys n vs
sets_append-add [] xs ys n = refl
sets_append-add (v ∷ vs) xs ys n =
    let e : suc (length xs + n) ≡ length xs + suc n = omega arith in
    ap (λ (l : List ℕ). sets l (suc (length xs + n)) vs) (set-append-add xs ys n v)
    ∙ ap (λ (k : ℕ). sets (xs ++ set ys n v) k vs) e
    ∙ sets_append-add vs xs (set ys n v) (suc n)

sets_front : (p q l : List ℕ) → length p ≡ length q → sets (p ++ l) 0 q ≡ q ++ l
sets_front p q l e =
    sets-eq q (p ++ l) 0 (omega (arith, length-append p l)) ∙ ap (λ (r : List ℕ). q ++ r) (drop_at p l (0 + length q) (omega arith))

pub layout-append : {A : Type 0} (put : A → List ℕ) (l r : List A) → layout put (l ++ r) ≡ layout put l ++ layout put r
unfolding layout
layout-append put [] r = refl
layout-append put (a ∷ l) r = ap (λ (m : List ℕ). put a ++ m) (layout-append put l r) ∙ sym (append_assoc (put a) (layout put l) (layout put r))

module _ {A : Type 0} (W : ℕ) (put : A → List ℕ) (long : (a : A) → length (put a) ≡ W) where
  step : (a : A) (i j : ℕ) → W * suc i + j ≡ length (put a) + (W * i + j)
  step a i j = omega (arith, long a)

  pub length-layout : (l : List A) → length (layout put l) ≡ W * length l
  unfolding layout
  length-layout [] = omega arith
  length-layout (a ∷ l) = length-append (put a) (layout put l) ∙ omega (arith, long a, length-layout l)

  -- number j of row i
  pub get-layout : (l : List A) (i j : ℕ) (d : A) → i < length l → j < W → get_or (layout put l) (W * i + j) 0 ≡ get_or (put (get_or l i d)) j 0
  unfolding layout
  get-layout [] i j d h g = absurd (omega arith)
  get-layout (a ∷ l) zero j d h g =
      let e : W * 0 + j ≡ j = omega arith in
      ap (λ (k : ℕ). get_or (put a ++ layout put l) k 0) e ∙ get_or-append (put a) (layout put l) 0 j (omega (arith, long a))
  get-layout (a ∷ l) (suc i) j d h g =
      ap (λ (k : ℕ). get_or (put a ++ layout put l) k 0) (step a i j)
      ∙ get_or-append-add (put a) (layout put l) (W * i + j) 0
      ∙ get-layout l i j d (omega arith) g

  -- one number of row i is written: the row b is the old one with that number
  pub set-layout : (l : List A) (i j x : ℕ) (b d : A) → i < length l → j < W → put b ≡ set (put (get_or l i d)) j x → set (layout put l) (W * i + j) x ≡ layout put (set l i b)
  unfolding layout
  set-layout [] i j x b d h g e = absurd (omega arith)
  set-layout (a ∷ l) zero j x b d h g e =
      let z : W * 0 + j ≡ j = omega arith in
      ap (λ (k : ℕ). set (put a ++ layout put l) k x) z ∙ set-append_left (put a) (layout put l) j x (omega (arith, long a)) ∙ ap (λ (p : List ℕ). p ++ layout put l) (sym e)
  set-layout (a ∷ l) (suc i) j x b d h g e =
      ap (λ (k : ℕ). set (put a ++ layout put l) k x) (step a i j)
      ∙ set-append-add (put a) (layout put l) (W * i + j) x
      ∙ ap (λ (r : List ℕ). put a ++ r) (set-layout l i j x b d (omega arith) g e)

  -- the whole of row i is written
  pub sets_layout : (l : List A) (i : ℕ) (b : A) → i < length l → sets (layout put l) (W * i) (put b) ≡ layout put (set l i b)
  unfolding layout
  sets_layout [] i b h = absurd (omega arith)
  sets_layout (a ∷ l) zero b h =
      let z : W * 0 ≡ 0 = omega arith in
      ap (λ (k : ℕ). sets (put a ++ layout put l) k (put b)) z ∙ sets_front (put a) (put b) (layout put l) (omega (arith, long a, long b))
  sets_layout (a ∷ l) (suc i) b h =
      let z : W * suc i ≡ length (put a) + W * i = omega (arith, long a) in
      ap (λ (k : ℕ). sets (put a ++ layout put l) k (put b)) z
      ∙ sets_append-add (put b) (put a) (layout put l) (W * i)
      ∙ ap (λ (r : List ℕ). put a ++ r) (sets_layout l i b (omega arith))

  -- the table from row i on
  pub drop-layout : (l : List A) (i : ℕ) → drop (W * i) (layout put l) ≡ layout put (drop i l)
  unfolding layout
  drop-layout l zero = let z : W * 0 ≡ 0 = omega arith in ap (λ (k : ℕ). drop k (layout put l)) z
  drop-layout [] (suc i) = drop-nil (W * suc i)
  drop-layout (a ∷ l) (suc i) =
      let z : W * suc i ≡ length (put a) + W * i = omega (arith, long a) in
      ap (λ (k : ℕ). drop k (put a ++ layout put l)) z ∙ drop-append-add (put a) (layout put l) (W * i) ∙ drop-layout l i

  -- a table of zeros is a table of blank rows
  pub zeros-layout : (b : A) → put b ≡ replicate W 0 → (n : ℕ) → layout put (replicate n b) ≡ replicate (W * n) 0
  unfolding layout
  zeros-layout b e zero = let z : W * 0 ≡ 0 = omega arith in ap (λ (k : ℕ). replicate k 0) (sym z)
  zeros-layout b e (suc n) =
      let z : W + W * n ≡ W * suc n = omega arith in
      ap (λ (p : List ℕ). p ++ layout put (replicate n b)) e
      ∙ ap (λ (r : List ℕ). replicate W 0 ++ r) (zeros-layout b e n)
      ∙ replicate-append-replicate W (W * n) 0
      ∙ ap (λ (k : ℕ). replicate k 0) z

  -- row i
  pub row-layout : (l : List A) (i : ℕ) (d : A) → i < length l → take W (drop (W * i) (layout put l)) ≡ put (get_or l i d)
  unfolding layout
  row-layout [] i d h = absurd (omega arith)
  row-layout (a ∷ l) zero d h =
      let z : W * 0 ≡ 0 = omega arith in
      ap (λ (k : ℕ). take W (drop k (put a ++ layout put l))) z ∙ take_at (put a) (layout put l) W (long a)
  row-layout (a ∷ l) (suc i) d h =
      let z : W * suc i ≡ length (put a) + W * i = omega (arith, long a) in
      ap (λ (k : ℕ). take W (drop k (put a ++ layout put l))) z
      ∙ ap (take W) (drop-append-add (put a) (layout put l) (W * i))
      ∙ row-layout l i d (omega arith)
