-- The list that a second run keeps, one entry after another.
use Rattle.std.specs.Prelude.{Option, None, Some}
use Prim.Native.Nat.{ℕ, suc, ◌≤◌}
use mathlib.Core.List.{List, [], ◌∷◌, ◌++◌}
use mathlib.Core.Bool.{Bool, true, false, cond, not, ◌||◌}
use mathlib.Core.Path.{◌≡◌, refl, ap, sym, ◌∙◌}
use native.Mathlib.Omega.{arith}
use borrow.Author.Tests.{eqb-true, eqb-false, eq-eqb, ne_eqb}
use lib.ListN.{length}
use lib.Dec.{eqb}
use Rattle.tree.specs.Tree.{Tree}
use Rattle.tree.specs.Check.{member}
use Rattle.scope_map.specs.ScopeMap.{ScopeMap}
use Rattle.semantic.specs.Rows.{ListEntry}
use Rattle.pass.specs.State.{Capture}
use Rattle.pass.specs.Lists.{name_of, names_of, keep, count_of, first_of, kept_list_entry, amend_list}
use Rattle.pass.specs.Lambda.{holds_lambda, kept_of}
use Rattle.amending.specs.Kept.{kept_after, is_kept}

-- Which entries are kept

keep_same : (f g : ℕ → Bool) → ((x : ℕ) → f x ≡ g x) → (l : List ListEntry) → keep f l ≡ keep g l
unfolding keep
keep_same f g h [] = refl
keep_same f g h (i ∷ l) =
    ap (λ (m : List ListEntry). cond (f (name_of i)) (i ∷ m) m) (keep_same f g h l) ∙ ap (λ (b : Bool). cond b (i ∷ keep g l) (keep g l)) (h (name_of i))

keep_all : (l : List ListEntry) → keep (λ x. true) l ≡ l
unfolding keep
keep_all [] = refl
keep_all (i ∷ l) = ap (λ (m : List ListEntry). i ∷ m) (keep_all l)

member-count : (x : ℕ) (l : List ListEntry) → member x (names_of l) ≡ not (eqb (count_of x l) 0)
unfolding count_of
member-count x [] = refl
member-count x (i ∷ l) = go (eqb x (name_of i)) refl (member-count x l)
  where
    go : (b : Bool) → eqb x (name_of i) ≡ b → member x (names_of l) ≡ not (eqb (count_of x l) 0)
        → (b || member x (names_of l)) ≡ not (eqb (cond (eqb (name_of i) x) (suc (count_of x l)) (count_of x l)) 0)
    go true e h =
        let z : eqb (name_of i) x ≡ true = eq-eqb (name_of i) x (sym (eqb-true x (name_of i) e)) in
        sym (ap (λ (b : Bool). not (eqb (cond b (suc (count_of x l)) (count_of x l)) 0)) z ∙ ap not (ne_eqb (suc (count_of x l)) 0 (λ q. omega arith)))
    go false e h =
        let z : eqb (name_of i) x ≡ false = ne_eqb (name_of i) x (λ q. eqb-false x (name_of i) e (sym q)) in
        h ∙ sym (ap (λ (b : Bool). not (eqb (cond b (suc (count_of x l)) (count_of x l)) 0)) z)

pub kept_is : (b : Tree) (now l : List ListEntry) → kept_of b now l ≡ keep (is_kept (holds_lambda b) now) l
kept_is b now l = go (holds_lambda b)
  where
    go : (h : Bool) → cond h l (keep (λ x. member x (names_of now)) l) ≡ keep (is_kept h now) l
    go true = sym (keep_all l)
    go false = keep_same (λ x. member x (names_of now)) (is_kept false now) (λ x. member-count x now) l

pub keep_snoc : (f : ℕ → Bool) (l : List ListEntry) (x : ListEntry) → keep f (l ++ (x ∷ [])) ≡ cond (f (name_of x)) (keep f l ++ (x ∷ [])) (keep f l)
unfolding keep
keep_snoc f [] x = refl
keep_snoc f (i ∷ l) x = ap (λ (m : List ListEntry). cond (f (name_of i)) (i ∷ m) m) (keep_snoc f l x) ∙ go (f (name_of i)) (f (name_of x))
  where
    go : (a b : Bool) → cond a (i ∷ cond b (keep f l ++ (x ∷ [])) (keep f l)) (cond b (keep f l ++ (x ∷ [])) (keep f l))
        ≡ cond b (cond a (i ∷ keep f l) (keep f l) ++ (x ∷ [])) (cond a (i ∷ keep f l) (keep f l))
    go true true = refl
    go true false = refl
    go false true = refl
    go false false = refl

-- One entry more

module _ (now : List ListEntry) (m : ScopeMap Capture) where
  -- the names that are seen after l
  seen_after : List ℕ → List ListEntry → List ℕ
  seen_after seen [] = seen
  seen_after seen (i ∷ l) = seen_after (name_of i ∷ seen) l

  kept_name : (b : Bool) (i : ListEntry) → name_of (cond b i (kept_list_entry now m (first_of (name_of i) now) i)) ≡ name_of i
  kept_name true i = refl
  kept_name false i = go (first_of (name_of i) now)
    where
      go : (o : Option ListEntry) → name_of (kept_list_entry now m o i) ≡ name_of i
      go None = refl
      go (Some v) = refl

  amended-names : (seen : List ℕ) (l : List ListEntry) → names_of (amend_list now m seen l) ≡ names_of l
  unfolding amend_list
  amended-names seen [] = refl
  amended-names seen (i ∷ l) =
      ap (λ (x : ℕ). x ∷ names_of (amend_list now m (name_of i ∷ seen) l)) (kept_name (member (name_of i) seen) i)
      ∙ ap (λ (r : List ℕ). name_of i ∷ r) (amended-names (name_of i ∷ seen) l)

  seen-member : (x : ℕ) (seen : List ℕ) (l : List ListEntry) → member x (seen_after seen l) ≡ (member x (names_of l) || member x seen)
  unfolding seen_after
  seen-member x seen [] = refl
  seen-member x seen (i ∷ l) = seen-member x (name_of i ∷ seen) l ∙ go (eqb x (name_of i)) (member x (names_of l))
    where
      go : (a b : Bool) → (b || (a || member x seen)) ≡ ((a || b) || member x seen)
      go true true = refl
      go true false = refl
      go false true = refl
      go false false = refl

  snoc : (seen : List ℕ) (l : List ListEntry) (x : ListEntry)
      → amend_list now m seen (l ++ (x ∷ []))
      ≡ amend_list now m seen l ++ (cond (member (name_of x) (seen_after seen l)) x (kept_list_entry now m (first_of (name_of x) now) x) ∷ [])
  unfolding amend_list seen_after
  snoc seen [] x = refl
  snoc seen (i ∷ l) x = ap (λ (r : List ListEntry). cond (member (name_of i) seen) i (kept_list_entry now m (first_of (name_of i) now) i) ∷ r) (snoc (name_of i ∷ seen) l x)

  pub amend_snoc : (l : List ListEntry) (x : ListEntry) → amend_list now m [] (l ++ (x ∷ [])) ≡ amend_list now m [] l ++ (kept_after now m (amend_list now m [] l) x ∷ [])
  amend_snoc l x = snoc [] l x ∙ ap (λ (b : Bool). amend_list now m [] l ++ (cond b x (kept_list_entry now m (first_of (name_of x) now) x) ∷ [])) same
    where
      or-none : (b : Bool) → (b || false) ≡ b
      or-none true = refl
      or-none false = refl

      same : member (name_of x) (seen_after [] l) ≡ member (name_of x) (names_of (amend_list now m [] l))
      same = seen-member (name_of x) [] l ∙ or-none (member (name_of x) (names_of l)) ∙ sym (ap (member (name_of x)) (amended-names [] l))

  pub kept_after_name : (l : List ListEntry) (x : ListEntry) → name_of (kept_after now m l x) ≡ name_of x
  kept_after_name l x = kept_name (member (name_of x) (names_of l)) x

  pub amended-length : (seen : List ℕ) (l : List ListEntry) → length (amend_list now m seen l) ≡ length l
  unfolding amend_list
  amended-length seen [] = refl
  amended-length seen (i ∷ l) = ap suc (amended-length (name_of i ∷ seen) l)

pub keep_fewer : (f : ℕ → Bool) (l : List ListEntry) → length (keep f l) ≤ length l
unfolding keep
keep_fewer f [] = omega arith
keep_fewer f (i ∷ l) = go (f (name_of i)) (keep_fewer f l)
  where
    go : (b : Bool) → length (keep f l) ≤ length l → length (cond b (i ∷ keep f l) (keep f l)) ≤ suc (length l)
    go true h = omega arith
    go false h = omega arith

pub snoc_member : (y : ℕ) (l : List ListEntry) (x : ListEntry) → member y (names_of (l ++ (x ∷ []))) ≡ (eqb y (name_of x) || member y (names_of l))
snoc_member y [] x = refl
snoc_member y (i ∷ l) x = ap (λ (b : Bool). eqb y (name_of i) || b) (snoc_member y l x) ∙ go (eqb y (name_of i)) (eqb y (name_of x))
  where
    go : (a b : Bool) → (a || (b || member y (names_of l))) ≡ (b || (a || member y (names_of l)))
    go true true = refl
    go true false = refl
    go false true = refl
    go false false = refl
