-- A function on the values of a map.
use Rattle.std.specs.Prelude.{List, [], ◌∷◌}
use Rattle.scope_map.specs.ScopeMap.{Live, ScopeMap}

module _ {A : Type 0} {B : Type 0} (f : A → B) where
  abbrev pub map_value : Live A → Live B
  map_value e = record { name = e.name; layer = e.layer; value = f e.value }

  unfoldable pub map_live : List (Live A) → List (Live B)
  map_live [] = []
  map_live (e ∷ l) = map_value e ∷ map_live l

  abbrev pub map_values : ScopeMap A → ScopeMap B
  map_values m = record { depth = m.depth; live = map_live m.live }
