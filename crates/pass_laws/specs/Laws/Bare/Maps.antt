-- A function applied to each element of a list commutes with what is done by place.
use Rattle.std.specs.Prelude.{ℕ, zero, suc, List, [], ◌∷◌, map, Bool, true, false, cond, ◌≡◌, refl, take, drop, set, replicate}
use Rattle.std.proofs.Common.{ap, ◌∙◌}
use Rattle.std.proofs.lemmas.List.Edits.{sets}

module _ {A : Type 0} {B : Type 0} (f : A → B) where
  pub map_cond : (b : Bool) (x y : A) → f (cond b x y) ≡ cond b (f x) (f y)
  map_cond true x y = refl
  map_cond false x y = refl

  pub map-set : (l : List A) (i : ℕ) (a : A) → map f (set l i a) ≡ set (map f l) i (f a)
  map-set [] i a = refl
  map-set (x ∷ l) zero a = refl
  map-set (x ∷ l) (suc i) a = ap (λ (r : List B). f x ∷ r) (map-set l i a)

  pub map_sets : (l : List A) (i : ℕ) (vs : List A) → map f (sets l i vs) ≡ sets (map f l) i (map f vs)
  map_sets l i [] = refl
  map_sets l i (a ∷ vs) = map_sets (set l i a) (suc i) vs ∙ ap (λ (r : List B). sets r (suc i) (map f vs)) (map-set l i a)

  pub map-take : (i : ℕ) (l : List A) → map f (take i l) ≡ take i (map f l)
  map-take zero l = refl
  map-take (suc i) [] = refl
  map-take (suc i) (x ∷ l) = ap (λ (r : List B). f x ∷ r) (map-take i l)

  pub map-drop : (i : ℕ) (l : List A) → map f (drop i l) ≡ drop i (map f l)
  map-drop zero l = refl
  map-drop (suc i) [] = refl
  map-drop (suc i) (x ∷ l) = map-drop i l

  pub map-replicate : (n : ℕ) (a : A) → map f (replicate n a) ≡ replicate n (f a)
  map-replicate zero a = refl
  map-replicate (suc n) a = ap (λ (r : List B). f a ∷ r) (map-replicate n a)
