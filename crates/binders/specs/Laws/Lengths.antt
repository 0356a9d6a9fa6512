-- How long an argument list is: an entry for each name.
use Rattle.std.specs.Prelude.{List, [], ◌∷◌, ◌≡◌, refl, suc, length}
use Rattle.std.proofs.Common.{ap}
use Rattle.tree.specs.Tree.{Ident}
use Rattle.scope_map.specs.ScopeMap.{Live}
use Rattle.pass.specs.State.{State}
use Rattle.pass.specs.Lambda.{list_entries_of, entered}

-- a let's
pub entered-length : (xs : List Ident) (s : State) → length (entered xs s) ≡ length xs
unfolding entered
entered-length [] s = refl
entered-length (x ∷ xs) s = ap suc (entered-length xs s)

-- a layer's
pub list_entries_length_lem : (s : State) (l : List (Live Ident)) → length (list_entries_of s l) ≡ length l
list_entries_length_lem s [] = refl
list_entries_length_lem s (e ∷ l) = ap suc (list_entries_length_lem s l)
