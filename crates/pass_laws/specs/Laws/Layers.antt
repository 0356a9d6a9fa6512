-- Names that enter the newest layer, none of them live there, leave it again with the live names as they were.
use Rattle.std.specs.Prelude.{ℕ, suc, ◌≤◌, Bool, true, ◌&&◌, ◌||◌, ◌≡◌}
use mathlib.Core.List.{List, [], ◌∷◌, ◌++◌}
use Rattle.std.proofs.Math.Bool.{false}
use Rattle.std.proofs.Common.{true≢false, sym, ◌∙◌, arith}
use Rattle.std.proofs.Math.Path.{refl, ap}
use borrow.Author.Tests.{eqb-false, eq-eqb, ne_eqb}
use Rattle.std.proofs.Math.Dec.{eqb}
use Rattle.tree.specs.Tree.{Ident}
use Rattle.scope_map.specs.ScopeMap.{Live, is_at, has_in, remove_in, below_layer}

-- Tests

pub or-false : (a b : Bool) → a || b ≡ false → (a ≡ false) × (b ≡ false)
or-false true b e = absurd (true≢false e)
or-false false b e = (refl, e)

pub and_left : (a b : Bool) → a && b ≡ true → a ≡ true
and_left true b e = refl
and_left false b e = e

pub and_right : (a b : Bool) → a && b ≡ true → b ≡ true
and_right true b e = e
and_right false b e = absurd (true≢false (sym e))

-- Live names

-- no live name lies above the layer d
abbrev pub Within : {A : Type 0} → ℕ → List (Live A) → Type 0
Within d [] = Unit {0}
Within d (e ∷ l) = (e.layer ≤ d) × Within d l

pub within_up : {A : Type 0} {d k : ℕ} (l : List (Live A)) → d ≤ k → Within d l → Within k l
within_up [] h w = tt
within_up (e ∷ l) h w = (omega (arith, w.0), within_up l h w.1)

-- a name of the layer d
abbrev pub live_at : ℕ → Ident → Live Ident
live_at d x = record { name = x.name; layer = d; value = x }

-- names enter the layer d, in order
abbrev pub entered_in : ℕ → List Ident → List (Live Ident) → List (Live Ident)
entered_in d [] l = l
entered_in d (x ∷ xs) l = entered_in d xs (live_at d x ∷ l)

-- and leave it, in the same order
abbrev pub left_in : ℕ → List Ident → List (Live Ident) → List (Live Ident)
left_in d [] l = l
left_in d (x ∷ xs) l = left_in d xs (remove_in d x.name l)

-- none is live in the layer when it enters
abbrev pub Anew : ℕ → List Ident → List (Live Ident) → Type 0
Anew d [] l = Unit {0}
Anew d (x ∷ xs) l = (has_in d x.name l ≡ false) × Anew d xs (live_at d x ∷ l)

pub within-entered : (d : ℕ) (xs : List Ident) (l : List (Live Ident)) → Within d l → Within d (entered_in d xs l)
within-entered d [] l w = w
within-entered d (x ∷ xs) l w = within-entered d xs (live_at d x ∷ l) (omega arith, w)

-- A layer is popped

below-within : (d : ℕ) (l : List (Live Ident)) → Within d l → below_layer (suc d) l ≡ l
unfolding below_layer
below-within d [] w = refl
below-within d (e ∷ l) w = rw (ne_eqb e.layer (suc d) (λ q. omega (arith, w.0)))

below-entered : (d : ℕ) (xs : List Ident) (l : List (Live Ident)) → below_layer d (entered_in d xs l) ≡ below_layer d l
unfolding below_layer
below-entered d [] l = refl
below-entered d (x ∷ xs) l = below-entered d xs (live_at d x ∷ l) ∙ rw (eq-eqb d d refl)

pub popped : (d : ℕ) (xs : List Ident) (l : List (Live Ident)) → Within d l → below_layer (suc d) (entered_in (suc d) xs l) ≡ l
popped d xs l w = below-entered (suc d) xs l ∙ below-within d l w

-- Names are removed one by one

module _ (d : ℕ) where
  has_less : (x : ℕ) (p : List (Live Ident)) (e : Live Ident) (l : List (Live Ident)) → has_in d x (p ++ e ∷ l) ≡ false → has_in d x (p ++ l) ≡ false
  unfolding has_in
  has_less x [] e l h = (or-false (is_at d x e) (has_in d x l) h).1
  has_less x (y ∷ p) e l h =
      let both = or-false (is_at d x y) (has_in d x (p ++ e ∷ l)) h in
      rw both.0 (has_less x p e l both.1)

  anew_less : (xs : List Ident) (p : List (Live Ident)) (e : Live Ident) (l : List (Live Ident)) → Anew d xs (p ++ e ∷ l) → Anew d xs (p ++ l)
  anew_less [] p e l a = tt
  anew_less (x ∷ xs) p e l a = (has_less x.name p e l a.0, anew_less xs (live_at d x ∷ p) e l a.1)

  -- two names of one layer differ
  differs : (x y : Ident) (p l : List (Live Ident)) → has_in d y.name (p ++ live_at d x ∷ l) ≡ false → is_at d x.name (live_at d y) ≡ false
  unfolding has_in
  differs x y [] l h =
      let h' = (or-false (is_at d y.name (live_at d x)) (has_in d y.name l) h).0 in
      let e : eqb x.name y.name ≡ false = rw (eq-eqb d d refl) at h' in
      rw (eq-eqb d d refl) (ne_eqb y.name x.name (λ q. eqb-false x.name y.name e (sym q)))
  differs x y (z ∷ p) l h = differs x y p l (or-false (is_at d y.name z) (has_in d y.name (p ++ live_at d x ∷ l)) h).1

  remove_first : (x : Ident) (p l : List (Live Ident)) → has_in d x.name p ≡ false → remove_in d x.name (p ++ live_at d x ∷ l) ≡ p ++ l
  unfolding has_in remove_in
  remove_first x [] l h = rw (eq-eqb d d refl, eq-eqb x.name x.name refl)
  remove_first x (y ∷ p) l h =
      let both = or-false (is_at d x.name y) (has_in d x.name p) h in
      rw both.0 (ap (λ (k : List (Live Ident)). y ∷ k) (remove_first x p l both.1))

  remove-entered : (x : Ident) (xs : List Ident) (p l : List (Live Ident)) → Anew d xs (p ++ live_at d x ∷ l) → has_in d x.name p ≡ false
      → remove_in d x.name (entered_in d xs (p ++ live_at d x ∷ l)) ≡ entered_in d xs (p ++ l)
  unfolding has_in
  remove-entered x [] p l a h = remove_first x p l h
  remove-entered x (y ∷ xs) p l a h = remove-entered x xs (live_at d y ∷ p) l a.1 (rw (differs x y p l a.0) h)

  pub left-entered : (xs : List Ident) (l : List (Live Ident)) → Anew d xs l → left_in d xs (entered_in d xs l) ≡ l
  unfolding has_in
  left-entered [] l a = refl
  left-entered (x ∷ xs) l a =
      ap (left_in d xs) (remove-entered x xs [] l a.1 refl) ∙ left-entered xs l (anew_less xs [] (live_at d x) l a.1)
