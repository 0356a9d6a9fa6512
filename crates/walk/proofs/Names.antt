-- `holds`: names in a row.
use Prim.Native.Nat.{ℕ, ◌+◌, ◌≤◌}
use mathlib.Core.List.{List, [], ◌∷◌, map}
use mathlib.Core.Bool.{Bool, ◌||◌}
use mathlib.Core.Path.{◌≡◌, refl, ap, ◌∙◌}
use native.Mathlib.Omega.{arith}
use lib.ListN.{length, length-map}
use lib.Dec.{eqb}
use Rattle.std.specs.List.{list_any, range_with_len}
use Rattle.tree.specs.Record.{Record, records, nth}
use Rattle.tree.specs.Tree.{Ident, named}
use Rattle.tree.specs.Check.{member}
use Rattle.tree.proofs.Laws.Stands.{names-inside}
use Rattle.pass.specs.Lambda.{name_in}
use Rattle.walk.specs.Contract.{SomeNames, HoldsName}
use Rattle.walk.specs.declared.uses.Names.{Names}
use Rattle.walk.proofs.Slice.{slice-within, any_slice}

pub inside : {rs : List ℕ} {n : Names} → SomeNames rs n → n.first + n.count ≤ length (records rs)
inside s = omega (arith, names-inside s.stand, s.many)

module _ (x : ℕ) where
  abbrev is_name : Record → Bool
  is_name r = eqb x r.name

  any_names : (xs : List Ident) → list_any is_name (map named xs) ≡ member x (map name_in xs)
  any_names [] = refl
  any_names (y ∷ xs) = ap (λ (b : Bool). eqb x y.name || b) (any_names xs)

  pub holds_any : (rs : List ℕ) (n : Names) → SomeNames rs n → {r : Bool}
      → r ≡ list_any (λ i. is_name (nth rs i)) (range_with_len n.first n.count) → HoldsName rs n x r
  holds_any rs n h e = record {
    is = λ N xs s k.
        e
        ∙ any_slice rs is_name n.first n.count (inside h)
        ∙ ap (list_any is_name) (slice-within s.within (length-map xs named ∙ k))
        ∙ any_names xs;
  }
