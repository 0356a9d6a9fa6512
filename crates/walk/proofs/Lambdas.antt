-- `holds_lambda`: the lambdas among a tree's records.
use Prim.Native.Nat.{ℕ, ◌-◌}
use mathlib.Core.List.{List, [], ◌∷◌, ◌++◌, map}
use mathlib.Core.Bool.{Bool, true, false, ◌||◌}
use mathlib.Core.Path.{◌≡◌, refl, ap, ap₂, ◌∙◌}
use native.Mathlib.Omega.{arith}
use lib.Dec.{eqb}
use Rattle.std.specs.List.{list_any, range_with_len}
use Rattle.std.proofs.lemmas.List.Folds.{list_any-append}
use Rattle.tree.proofs.Laws.Stands.{tree_inside}
use Rattle.tree.specs.Record.{Record, nth}
use Rattle.tree.specs.Tree.{Ident, Tree, Trees, ident, const, if, letin, define, lambda, sequence, call, set!, nil, cons, named, flat, flats, begins, ands, whens}
use Rattle.pass.specs.Lambda.{holds_lambda, holds_lambda_in}
use Rattle.walk.specs.Contract.{SomeBody, HoldsLambda}
use Rattle.walk.proofs.Slice.{slice_tree, any_slice}

abbrev is_lambda : Record → Bool
is_lambda r = eqb r.form 6

-- whether a lambda's record is among them
abbrev any : List Record → Bool
any = list_any is_lambda

any_append : (l m : List Record) → any (l ++ m) ≡ any l || any m
any_append = list_any-append is_lambda

any-names : (xs : List Ident) (l : List Record) → any (map named xs ++ l) ≡ any l
any-names [] l = refl
any-names (x ∷ xs) l = any-names xs l

mutual
  unfolding flat holds_lambda

  any_flat : (t : Tree) → any (flat t) ≡ holds_lambda t
  any_flat (ident x) = refl
  any_flat (const n q) = refl
  any_flat (if n a b c) =
      any_append (flat a) (flat b ++ flat c) ∙ ap₂ ◌||◌ (any_flat a) (any_append (flat b) (flat c) ∙ ap₂ ◌||◌ (any_flat b) (any_flat c))
  any_flat (letin n xs es b) =
      any-names xs (flats es ++ flat b) ∙ any_append (flats es) (flat b) ∙ ap₂ ◌||◌ (any_flats es) (any_flat b)
  any_flat (define n x b) = any_flat b
  any_flat (lambda n xs b) = refl
  any_flat (sequence (begins n) es) = any_flats es
  any_flat (sequence (ands n) es) = any_flats es
  any_flat (sequence (whens true n) es) = any_flats es
  any_flat (sequence (whens false n) es) = any_flats es
  any_flat (call n h es) = any_append (flat h) (flats es) ∙ ap₂ ◌||◌ (any_flat h) (any_flats es)
  any_flat (set! n x e) = any_flat e

  any_flats : (ts : Trees) → any (flats ts) ≡ holds_lambda_in ts
  any_flats nil = refl
  any_flats (cons t ts) = any_append (flat t) (flats ts) ∙ ap₂ ◌||◌ (any_flat t) (any_flats ts)

pub holds_any : (rs : List ℕ) (first stop : ℕ) → SomeBody rs first stop → {r : Bool}
    → r ≡ list_any (λ i. is_lambda (nth rs i)) (range_with_len first (stop - first)) → HoldsLambda rs first stop r
holds_any rs first stop h e = record {
  is = λ N t s k. e ∙ any_slice rs is_lambda first (stop - first) (omega (arith, tree_inside h.stands, h.ends)) ∙ ap any (slice_tree s k) ∙ any_flat t;
}
