-- What holds of every element of a table or of a list of live names holds after it is changed, if it holds of what is written.
use Rattle.std.specs.Prelude.{ℕ, zero, suc, ◌-◌, Bool, true, false, cond, ◌≡◌, get_or, take, drop, set, replicate, eqb, ltb, Option, None, Some}
use mathlib.Core.List.{List, [], ◌∷◌}
use Rattle.std.proofs.lemmas.List.Edits.{sets}
use Rattle.tree.specs.Accepted.{All}
use Rattle.scope_map.specs.ScopeMap.{ScopeMap, Live, is_at, replace_in, remove_in, below_layer, get_in, has_at_top, define, remove, pop_layer}

module _ {A : Type 0} (P : A → Type 0) where
  -- Tables: P holds at every place, d being what stands past the end

  pub set_each : (d : A) (l : List A) (i : ℕ) (a : A) → P a → ((j : ℕ) → P (get_or l j d)) → (j : ℕ) → P (get_or (set l i a) j d)
  set_each d [] i a p q j = q j
  set_each d (b ∷ l) zero a p q zero = p
  set_each d (b ∷ l) zero a p q (suc j) = q (suc j)
  set_each d (b ∷ l) (suc i) a p q zero = q zero
  set_each d (b ∷ l) (suc i) a p q (suc j) = set_each d l i a p (λ k. q (suc k)) j

  pub sets_each : (d : A) (l : List A) (i : ℕ) (m : List A) → All P m → ((j : ℕ) → P (get_or l j d)) → (j : ℕ) → P (get_or (sets l i m) j d)
  sets_each d l i [] p q = q
  sets_each d l i (a ∷ m) p q = sets_each d (set l i a) (suc i) m p.1 (set_each d l i a p.0 q)

  pub same_each : (d : A) (n : ℕ) → P d → (j : ℕ) → P (get_or (replicate n d) j d)
  same_each d zero p j = p
  same_each d (suc n) p zero = p
  same_each d (suc n) p (suc j) = same_each d n p j

  -- the elements of a table, of a part of it, of one element many times

  pub all_elements : (d : A) (l : List A) → ((j : ℕ) → P (get_or l j d)) → All P l
  all_elements d [] q = tt
  all_elements d (a ∷ l) q = (q zero, all_elements d l (λ j. q (suc j)))

  pub all_take : (n : ℕ) (l : List A) → All P l → All P (take n l)
  all_take zero l p = tt
  all_take (suc n) [] p = tt
  all_take (suc n) (a ∷ l) p = (p.0, all_take n l p.1)

  pub all_drop : (n : ℕ) (l : List A) → All P l → All P (drop n l)
  all_drop zero l p = p
  all_drop (suc n) [] p = tt
  all_drop (suc n) (a ∷ l) p = all_drop n l p.1

  pub all_same : (n : ℕ) (a : A) → P a → All P (replicate n a)
  all_same zero a p = tt
  all_same (suc n) a p = (p, all_same n a p)

  -- by a test
  pub all_either : (b : Bool) (l m : List A) → All P l → All P m → All P (cond b l m)
  all_either true l m p q = p
  all_either false l m p q = q

-- what an option holds
abbrev pub Maybe : {A : Type 0} → (A → Type 0) → Option A → Type 0
Maybe P None = Unit {0}
Maybe P (Some a) = P a

pub maybe_some : {A : Type 0} (P : A → Type 0) {o : Option A} {a : A} → Maybe P o → o ≡ Some a → P a
maybe_some P p e = rw e at p

pub maybe_either : {A : Type 0} (P : A → Type 0) (b : Bool) (o q : Option A) → Maybe P o → Maybe P q → Maybe P (cond b o q)
maybe_either P true o q p r = p
maybe_either P false o q p r = r

-- Live names: R holds of each

module _ {A : Type 0} (R : Live A → Type 0) where
  replace_live : (d x : ℕ) (v : A) (l : List (Live A)) → R (record { name = x; layer = d; value = v }) → All R l → All R (replace_in d x v l)
  unfolding replace_in
  replace_live d x v [] q p = tt
  replace_live d x v (e ∷ l) q p = all_either _ (is_at d x e) _ _ (q, p.1) (p.0, replace_live d x v l q p.1)

  remove_live : (d x : ℕ) (l : List (Live A)) → All R l → All R (remove_in d x l)
  unfolding remove_in
  remove_live d x [] p = tt
  remove_live d x (e ∷ l) p = all_either _ (is_at d x e) _ _ p.1 (p.0, remove_live d x l p.1)

  below_live : (d : ℕ) (l : List (Live A)) → All R l → All R (below_layer d l)
  unfolding below_layer
  below_live d [] p = tt
  below_live d (e ∷ l) p = all_either _ (eqb e.layer d) _ _ (below_live d l p.1) p

  pub defined_live : (x : ℕ) (v : A) (m : ScopeMap A) → R (record { name = x; layer = m.depth; value = v }) → All R m.live → All R (define x v m).live
  defined_live x v m q p = all_either _ (has_at_top m x) _ _ (replace_live m.depth x v m.live q p) (q, p)

  pub removed_live : (x : ℕ) (m : ScopeMap A) → All R m.live → All R (remove x m).live
  removed_live x m p = remove_live m.depth x m.live p

  pub popped_live : (m : ScopeMap A) → All R m.live → All R (pop_layer m).live
  popped_live m p = go (ltb 1 m.depth)
    where
      go : (b : Bool) → All R (cond b (record { depth = m.depth - 1; live = below_layer m.depth m.live }) m).live
      go true = below_live m.depth m.live p
      go false = p

-- P holds of every value

module _ {A : Type 0} (P : A → Type 0) where
  abbrev pub Values : List (Live A) → Type 0
  Values l = All (λ e. P e.value) l

  pub get_value : (l : List (Live A)) (x : ℕ) → Values l → Maybe (λ e. P e.value) (get_in l x)
  unfolding get_in
  get_value [] x p = tt
  get_value (e ∷ l) x p = maybe_either (λ e. P e.value) (eqb e.name x) (Some e) (get_in l x) p.0 (get_value l x p.1)

  pub defined_values : (x : ℕ) (v : A) (m : ScopeMap A) → P v → Values m.live → Values (define x v m).live
  defined_values x v m q p = defined_live (λ e. P e.value) x v m q p

  pub removed_values : (x : ℕ) (m : ScopeMap A) → Values m.live → Values (remove x m).live
  removed_values x m p = removed_live (λ e. P e.value) x m p

  pub popped_values : (m : ScopeMap A) → Values m.live → Values (pop_layer m).live
  popped_values m p = popped_live (λ e. P e.value) m p
