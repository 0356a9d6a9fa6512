-- A check that finds no record: its test fails at every one.
use Rattle.std.proofs.Common.{sym}
use Rattle.std.specs.Prelude.{ℕ, Bool, true, false, cond, ◌≡◌, Option, None, Some}
use Rattle.std.proofs.lemmas.Option.{none-some}
use mathlib.Core.List.{List, [], ◌∷◌}
use Rattle.std.proofs.Math.Path.{refl}
use Rattle.tree.specs.First.{on, first}
use Rattle.tree.specs.Check.{Refusal, or_else}
use Rattle.tree.specs.Accepted.{All}

-- neither here nor later
pub neither : (b : Bool) (o : Option ℕ) → cond b (Some 0) (on 1 o) ≡ None → (b ≡ false) × (o ≡ None)
neither true o e = absurd (none-some 0 (sym e))
neither false None e = (refl, refl)
neither false (Some i) e = absurd (none-some _ (sym e))

pub both-none : {b : Bool} {o : Option ℕ} → b ≡ false → o ≡ None → cond b (Some 0) (on 1 o) ≡ None
both-none p q = λ i. cond (p i) (Some 0) (on 1 (q i))

module _ {A : Type 0} {P : A → Type 0} where
  pub all_of : ((a : A) → P a) → (l : List A) → All P l
  all_of f [] = tt
  all_of f (a ∷ l) = (f a, all_of f l)

  pub all_map : {Q : A → Type 0} → ((a : A) → P a → Q a) → (l : List A) → All P l → All Q l
  all_map f [] h = tt
  all_map f (a ∷ l) h = (f a h.0, all_map f l h.1)

  pub all_zip : {Q R : A → Type 0} → ((a : A) → P a → Q a → R a) → (l : List A) → All P l → All Q l → All R l
  all_zip f [] h g = tt
  all_zip f (a ∷ l) h g = (f a h.0 g.0, all_zip f l h.1 g.1)

module _ {A : Type 0} (test : A → Bool) where
  pub first-none : (l : List A) → first test l ≡ None → All (λ a. test a ≡ false) l
  unfolding first
  first-none [] e = tt
  first-none (a ∷ l) e = let h = neither (test a) (first test l) e in (h.0, first-none l h.1)

  pub none_first : (l : List A) → All (λ a. test a ≡ false) l → first test l ≡ None
  unfolding first
  none_first [] h = refl
  none_first (a ∷ l) h = both-none h.0 (none_first l h.1)

-- neither this check nor a later one
pub passed : (n : ℕ) (o : Option ℕ) (p : Option Refusal) → or_else n o p ≡ None → (o ≡ None) × (p ≡ None)
passed n None p e = (refl, e)
passed n (Some i) p e = absurd (none-some _ (sym e))
