-- What the code holds, and what each operation says of it. The contracts speak of every map held; there is at most one.
use Rattle.std.specs.Prelude.{ℕ, ◌+◌, ◌-◌, ◌≤◌, ◌<◌, List, [], ◌∷◌, cond, ◌≡◌, length, drop, eqb, ltb, Option, None, Some, option_map}
use Rattle.scope_map.specs.ScopeMap.{Live, ScopeMap, is_at, below_layer, get, depth_of, has_at_top, define, newest_layer}
use Rattle.scope_map.specs.Rows.{live_in, rows_from}
use Rattle.scope_map.specs.Hints.{map_length, Roomy, Indexed}
use Rattle.scope_map.specs.declared.ScopeMap.{ScopeMap as Map}
use Rattle.scope_map.specs.declared.Found.{Found}

-- layers do not fall from older names to newer, and none is above d
unfoldable pub Sorted : ℕ → List (Live ℕ) → Type 0
Sorted d [] = Unit {0}
Sorted d (e ∷ l) = (e.layer ≤ d) × Sorted e.layer l

-- the struct m and the table t hold the map s
pub record Held (m : Map) (t : List ℕ) (s : ScopeMap ℕ) : Type 0 where
  pub depth : m.depth ≡ s.depth
  pub many : m.length ≡ length s.live
  pub room : Roomy m.length t
  pub live : live_in t m.length ≡ s.live
  pub index : Indexed m.length t
  pub sorted : Sorted s.depth s.live

-- an operation that takes a map to another; what lies after the map is as it was
pub record Becomes (m : Map) (t : List ℕ) (f : ScopeMap ℕ → ScopeMap ℕ) (m' : Map) (t' : List ℕ) : Type 0 where
  pub held : (s : ScopeMap ℕ) → Held m t s → Held m' t' (f s)
  pub rest : drop map_length t' ≡ drop map_length t

-- an operation that answers
pub record Tells {A : Type 0} (m : Map) (t : List ℕ) (f : ScopeMap ℕ → A) (r : A) : Type 0 where
  pub is : (s : ScopeMap ℕ) → Held m t s → r ≡ f s

-- A lookup. The row of a live name is the number of older ones.

abbrev pub found_at : ℕ → Live ℕ → Found
found_at i e = record { row = i; layer = e.layer; value = e.value }

unfoldable pub found_in : List (Live ℕ) → ℕ → Option Found
found_in [] x = None
found_in (e ∷ l) x = cond (eqb e.name x) (Some (found_at (length l) e)) (found_in l x)

abbrev pub entry_of : ℕ → Found → Live ℕ
entry_of x f = record { name = x; layer = f.layer; value = f.value }

pub record Gets (m : Map) (t : List ℕ) (x : ℕ) (r : Option Found) : Type 0 where
  pub is : (s : ScopeMap ℕ) → Held m t s → option_map (entry_of x) r ≡ get s x
  pub row : (s : ScopeMap ℕ) → Held m t s → r ≡ found_in s.live x
  pub below : (f : Found) → r ≡ Some f → f.row < m.length

abbrev pub distance_of : ScopeMap ℕ → ℕ → Option ℕ
distance_of s x = option_map (depth_of s) (get s x)

-- The row that defining a name writes: its row in the newest layer or, where that has none, the one after the last

unfoldable pub place_in : ℕ → ℕ → ℕ → List (Live ℕ) → ℕ
place_in d x other [] = other
place_in d x other (e ∷ l) = cond (is_at d x e) (length l) (place_in d x other l)

abbrev pub place_of : ScopeMap ℕ → ℕ → ℕ
place_of s x = place_in s.depth x (length s.live) s.live

pub record Places (m : Map) (t : List ℕ) (x r : ℕ) : Type 0 where
  pub is : (s : ScopeMap ℕ) → Held m t s → r ≡ place_of s x
  pub has : (s : ScopeMap ℕ) → Held m t s → ltb r m.length ≡ has_at_top s x
  pub most : r ≤ m.length

-- with the row r, if it is not there
abbrev pub with_row : ℕ → Map → Map
with_row r m = cond (ltb r m.length) m (record { depth = m.depth; length = m.length + 1 })

-- the name is defined, in the row r
pub record DefinesAt (m : Map) (t : List ℕ) (x v r : ℕ) (t' : List ℕ) : Type 0 where
  pub place : Places m t x r
  pub becomes : Becomes m t (define x v) (with_row r m) t'

-- the names of the newest layer are the rows from r on, those below it the rows before
pub record Starts (m : Map) (t : List ℕ) (r : ℕ) : Type 0 where
  pub is : (s : ScopeMap ℕ) → Held m t s → newest_layer s ≡ rows_from t r (m.length - r)
  pub below : (s : ScopeMap ℕ) → Held m t s → below_layer s.depth s.live ≡ live_in t r
  pub most : r ≤ m.length
