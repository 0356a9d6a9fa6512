-- Lists read by place: after one more is put on, after a place is set, and their last n. What holds of all of a list.
use Rattle.std.specs.Prelude.{ℕ, zero, suc, ◌+◌, ◌-◌, ◌≤◌, ◌<◌, ◌≡◌, refl, length, take, drop, set, Some, option_map, slice_get}
use Rattle.std.proofs.lemmas.Option.{same_Some, none-some}
use mathlib.Core.List.{List, [], ◌∷◌, ◌++◌, map, tail}
use mathlib.Core.List.{Memᴰ as Member}
use Rattle.std.proofs.Common.{ap, subst, not-suc-le-zero, le_of_suc-le-suc, arith, length-append, length-set, drop-set-lt}
use Rattle.std.proofs.Math.Path.{subst⁻¹}
use Rattle.std.proofs.Math.Seq.{take-length, drop-length, take-set-lt}
use Rattle.std.proofs.lemmas.List.{take-append-le, drop-append-le, take-set-le}
use Rattle.tree.specs.Accepted.{All}
use Rattle.r7rs.specs.Machine.{last_n, but_n}

module _ {A : Type 0} where
  pub inside : (l : List A) (i : ℕ) {a : A} → slice_get l i ≡ Some a → i < length l
  inside [] i {a} e = absurd (none-some a e)
  inside (x ∷ l) zero e = omega arith
  inside (x ∷ l) (suc i) e = let h = inside l i e in omega arith

  pub present : (l : List A) (i : ℕ) → i < length l → (a : A) × (slice_get l i ≡ Some a)
  present [] i h = absurd (not-suc-le-zero h)
  present (x ∷ l) zero h = (x, refl)
  present (x ∷ l) (suc i) h = present l i (le_of_suc-le-suc h)

  pub at-append : (l r : List A) (i : ℕ) {a : A} → slice_get l i ≡ Some a → slice_get (l ++ r) i ≡ Some a
  at-append [] r i {a} e = absurd (none-some a e)
  at-append (x ∷ l) r zero e = e
  at-append (x ∷ l) r (suc i) e = at-append l r i e

  pub at_seam : (l r : List A) (i : ℕ) → slice_get (l ++ r) (length l + i) ≡ slice_get r i
  at_seam [] r i = ap (slice_get r) (omega arith)
  at_seam (x ∷ l) r i = let e : suc (length l) + i ≡ suc (length l + i) = omega arith in rw e (at_seam l r i)

  pub at_take : (l : List A) (n i : ℕ) → i < n → slice_get (take n l) i ≡ slice_get l i
  at_take l zero i h = absurd (not-suc-le-zero h)
  at_take [] (suc n) i h = refl
  at_take (x ∷ l) (suc n) zero h = refl
  at_take (x ∷ l) (suc n) (suc i) h = at_take l n i (le_of_suc-le-suc h)

  pub at_drop : (l : List A) (n i : ℕ) → slice_get (drop n l) i ≡ slice_get l (n + i)
  at_drop l zero i = ap (slice_get l) (omega arith)
  at_drop [] (suc n) i = refl
  at_drop (x ∷ l) (suc n) i = let e : suc n + i ≡ suc (n + i) = omega arith in rw e (at_drop l n i)

  pub at_set_same : (l : List A) (i : ℕ) (b : A) {a : A} → slice_get l i ≡ Some a → slice_get (set l i b) i ≡ Some b
  at_set_same [] i b {a} e = absurd (none-some a e)
  at_set_same (x ∷ l) zero b e = refl
  at_set_same (x ∷ l) (suc i) b e = at_set_same l i b e

  pub at_set_other : (l : List A) (i j : ℕ) (b : A) → ¬ (i ≡ j) → slice_get (set l i b) j ≡ slice_get l j
  at_set_other [] i j b h = refl
  at_set_other (x ∷ l) zero zero b h = absurd (h refl)
  at_set_other (x ∷ l) zero (suc j) b h = refl
  at_set_other (x ∷ l) (suc i) zero b h = refl
  at_set_other (x ∷ l) (suc i) (suc j) b h = at_set_other l i j b (λ e. h (ap suc e))

  pub at_map : {B : Type 0} (f : A → B) (l : List A) (i : ℕ) {a : A} → slice_get l i ≡ Some a → slice_get (map f l) i ≡ Some (f a)
  at_map f [] i {a} e = absurd (none-some a e)
  at_map f (x ∷ l) zero e = ap (option_map f) e
  at_map f (x ∷ l) (suc i) e = at_map f l i e

  pub drop_tail : (n : ℕ) (l : List A) → drop (suc n) l ≡ tail (drop n l)
  drop_tail zero [] = refl
  drop_tail zero (x ∷ l) = refl
  drop_tail (suc n) [] = refl
  drop_tail (suc n) (x ∷ l) = drop_tail n l

  -- none of a list

  pub last_none : (l : List A) → last_n 0 l ≡ []
  last_none l = let e : length l - 0 ≡ length l = omega arith in rw e (drop-length l)

  pub but_none : (l : List A) → but_n 0 l ≡ l
  but_none l = let e : length l - 0 ≡ length l = omega arith in rw e (take-length l)

  -- after one more

  module _ (l : List A) (a : A) (n : ℕ) (h : n ≤ length l) where
    one_more_lem : length (l ++ (a ∷ [])) - suc n ≡ length l - n
    one_more_lem = omega (arith, length-append l (a ∷ []))

    pub but_push : but_n (suc n) (l ++ (a ∷ [])) ≡ but_n n l
    but_push = rw one_more_lem (take-append-le (length l - n) l (a ∷ []) (omega arith))

    pub last-push : last_n (suc n) (l ++ (a ∷ [])) ≡ last_n n l ++ (a ∷ [])
    last-push = rw one_more_lem (drop-append-le (length l - n) l (a ∷ []) (omega arith))

  -- after a place below, or above, the last n is set

  pub last_set : (l : List A) (n s : ℕ) (a : A) → s < length l - n → last_n n (set l s a) ≡ last_n n l
  last_set l n s a h = rw (length-set l s a) (drop-set-lt (length l - n) l s a h)

  pub but_set : (l : List A) (n s : ℕ) (a : A) → s < length l - n → but_n n (set l s a) ≡ set (but_n n l) s a
  but_set l n s a h = rw (length-set l s a) (take-set-lt (length l - n) l s a h)

  pub but_set_above : (l : List A) (n s : ℕ) (a : A) → length l - n ≤ s → but_n n (set l s a) ≡ but_n n l
  but_set_above l n s a h = rw (length-set l s a) (take-set-le (length l - n) l s a h)

-- What holds of all of a list

module _ {A : Type 0} (P : A → Type 0) where
  pub all_append : (l r : List A) → All P l → All P r → All P (l ++ r)
  all_append [] r h k = k
  all_append (x ∷ l) r h k = (h.0, all_append l r h.1 k)

  pub all-at : (l : List A) (i : ℕ) {a : A} → All P l → slice_get l i ≡ Some a → P a
  all-at [] i {a} h e = absurd (none-some a e)
  all-at (x ∷ l) zero {a} h e = subst P (same_Some x a e) h.0
  all-at (x ∷ l) (suc i) h e = all-at l i h.1 e

  pub all-member : {a : A} {l : List A} → Member a l → All P l → P a
  all-member (Member.head e) h = subst⁻¹ P e h.0
  all-member (Member.tail m) h = all-member m h.1
