-- The maps that the program makes.
use Rattle.std.specs.Prelude.{ℕ, List}
use Rattle.scope_map.specs.ScopeMap.{ScopeMap, new, push_layer, define}
use Rattle.scope_map.specs.Held.{Held}
use Rattle.scope_map.specs.declared.ScopeMap.{ScopeMap as Map}

-- the name 7 in two layers
abbrev pub two_layers : ScopeMap ℕ
two_layers = define 7 71 (push_layer (define 7 70 new))

-- another name after it, and its value replaced
abbrev pub replaced : ScopeMap ℕ
replaced = define 7 72 (define 6 60 two_layers)

-- some map is held
pub record Holds (m : Map) (t : List ℕ) : Type 0 where
  pub s : ScopeMap ℕ
  pub held : Held m t s
