-- What holds of all elements of a list.
use Rattle.std.specs.Prelude.{List, [], ◌∷◌, ◌++◌}
use Rattle.tree.specs.Accepted.{All}

module _ {A : Type 0} (P : A → Type 0) where
  pub all_of : ((a : A) → P a) → (l : List A) → All P l
  all_of f [] = tt
  all_of f (a ∷ l) = (f a, all_of f l)

  pub all-++ : (l m : List A) → All P l → All P m → All P (l ++ m)
  all-++ [] m p q = q
  all-++ (a ∷ l) m p q = (p.0, all-++ l m p.1 q)

  pub all_left : (l m : List A) → All P (l ++ m) → All P l
  all_left [] m p = tt
  all_left (a ∷ l) m p = (p.0, all_left l m p.1)

  pub all_right : (l m : List A) → All P (l ++ m) → All P m
  all_right [] m p = p
  all_right (a ∷ l) m p = all_right l m p.1

  pub all_map : (Q : A → Type 0) → ((a : A) → P a → Q a) → (l : List A) → All P l → All Q l
  all_map Q f [] p = tt
  all_map Q f (a ∷ l) p = (f a p.0, all_map Q f l p.1)

  pub all_zip : (Q R : A → Type 0) → ((a : A) → P a → Q a → R a) → (l : List A) → All P l → All Q l → All R l
  all_zip Q R f [] p q = tt
  all_zip Q R f (a ∷ l) p q = (f a p.0 q.0, all_zip Q R f l p.1 q.1)
