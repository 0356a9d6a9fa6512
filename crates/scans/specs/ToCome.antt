-- The children to come of open records, the innermost first.
use Rattle.std.specs.Prelude.{ℕ, ◌+◌, ◌<◌, List, [], ◌∷◌}
use Rattle.tree.specs.Place.{Open}

-- the children to come of an open record
abbrev pub to_come : Open → ℕ
to_come o = o.names + o.others

-- the innermost open record has a child to come
abbrev pub Live : List Open → Type 0
Live [] = Unit {0}
Live (o ∷ s) = 0 < to_come o

-- the open records but for the innermost
abbrev pub below : List Open → List Open
below [] = []
below (o ∷ s) = s
