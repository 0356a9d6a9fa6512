-- Laws of the first place where a test holds.
use Rattle.std.specs.Prelude.{Option, None, Some}
use Prim.Native.Nat.{ℕ, suc, ◌+◌, ◌≤◌, ◌<◌}
use mathlib.Core.List.{List, ◌∷◌}
use mathlib.Core.Bool.{Bool, true, false}
use mathlib.Core.Path.{◌≡◌, refl, ap, sym, ◌∙◌}
use native.Mathlib.Omega.{arith}
use lib.ListN.{length, get_or, drop, drop_of_length-le}
use lib.Seq.{drop-cons}
use Rattle.tree.specs.First.{on, first}

pub on-zero : (o : Option ℕ) → on 0 o ≡ o
on-zero None = refl
on-zero (Some i) = ap Some (omega arith)

pub on-on : (m n : ℕ) (o : Option ℕ) → on m (on n o) ≡ on (m + n) o
on-on m n None = refl
on-on m n (Some i) = ap Some (omega arith)

-- a search that has come to i, with l left
module _ {A : Type 0} (test : A → Bool) (i : ℕ) (a : A) (l : List A) where
  pub first_hit : test a ≡ true → on i (first test (a ∷ l)) ≡ Some i
  unfolding first
  first_hit h = rw h (ap Some (omega arith))

  pub first_next : test a ≡ false → on i (first test (a ∷ l)) ≡ on (i + 1) (first test l)
  unfolding first
  first_next h = rw h (on-on i 1 (first test l))

  fails : (b : Bool) → test a ≡ b → on i (first test (a ∷ l)) ≡ None → test a ≡ false
  fails true t e = let z : ◌≡◌ {A = ℕ} 0 1 = cc (first_hit t) in absurd (omega arith)
  fails false t e = t

  -- a search that finds none was not to stop here
  pub first-none : on i (first test (a ∷ l)) ≡ None → test a ≡ false
  first-none e = fails (test a) refl e

-- a search over the list from its place i on
module _ {A : Type 0} (test : A → Bool) (l : List A) (d : A) (i : ℕ) where
  pub from_hit : i < length l → test (get_or l i d) ≡ true → on i (first test (drop i l)) ≡ Some i
  from_hit h t = ap (λ (m : List A). on i (first test m)) (drop-cons l i d h) ∙ first_hit test i (get_or l i d) (drop (suc i) l) t

  pub from_next : i < length l → test (get_or l i d) ≡ false → on i (first test (drop i l)) ≡ on (i + 1) (first test (drop (i + 1) l))
  from_next h t =
      let z : suc i ≡ i + 1 = omega arith in
      ap (λ (m : List A). on i (first test m)) (drop-cons l i d h)
      ∙ first_next test i (get_or l i d) (drop (suc i) l) t
      ∙ ap (λ (k : ℕ). on (i + 1) (first test (drop k l))) z

  pub from_none : i < length l → on i (first test (drop i l)) ≡ None → test (get_or l i d) ≡ false
  from_none h e = first-none test i (get_or l i d) (drop (suc i) l) (ap (λ (m : List A). on i (first test m)) (sym (drop-cons l i d h)) ∙ e)

  pub from_end : length l ≤ i → on i (first test (drop i l)) ≡ None
  unfolding first
  from_end h = ap (λ (m : List A). on i (first test m)) (drop_of_length-le l h)
