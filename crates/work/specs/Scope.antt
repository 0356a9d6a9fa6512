-- What the functions over the live names promise.
use Rattle.std.specs.Prelude.{ℕ, suc, ◌-◌, List, ◌∷◌, reverse, Bool, ◌&&◌, ◌≡◌, ltb, length, take, drop}
use Rattle.table.specs.Region.{region}
use Rattle.tree.specs.Tree.{Ident}
use Rattle.tree.specs.Accepted.{All}
use Rattle.scope_map.specs.ScopeMap.{Live, has_at_top, remove, define, newest_layer}
use Rattle.scope_map.specs.Held.{with_row, Starts}
use Rattle.scope_map.specs.declared.Row.{Row}
use Rattle.pass.specs.State.{State, with_names, newest, id_of, depth}
use Rattle.work.specs.Known.{Known}
use Rattle.work.specs.Works.{scope_length, Works}
use Rattle.work.specs.Passes.{in_scope}
use Rattle.work.specs.declared.Pass.{Pass}

-- the binders of the live names are identifiers of the tree
abbrev pub BindersKnown : List ℕ → State → Type 0
BindersKnown rs s = All (λ e. Known rs e.value) s.scope.names.live

pub record KnownHere (rs : List ℕ) (p : Pass) (w : List ℕ) : Type 0 where
  pub s : State
  pub works : Works p w s
  pub binders : BindersKnown rs s

pub record TellsId (rs : List ℕ) (p : Pass) (w : List ℕ) (name r : ℕ) : Type 0 where
  pub is : (s : State) → Works p w s → BindersKnown rs s → r ≡ id_of (newest s name)

-- A name enters in a row: whether that is there before, above the bottom layer; and the pass with it

abbrev pub is_live_row : ℕ → Pass → Bool
is_live_row r p = ltb 1 p.scope.depth && ltb r p.scope.length

abbrev pub in_row : ℕ → Pass → Pass
in_row r p = in_scope (with_row r p.scope) p

-- the name enters the newest layer, with this record's identifier, in the row r
pub record Defines (p : Pass) (w : List ℕ) (name at r : ℕ) (w' : List ℕ) : Type 0 where
  pub is : (s : State) (x : Ident) → x.at ≡ at → Works p w s → Works (in_row r p) w' (with_names (define name x s.scope.names) s)
  pub live : (s : State) → Works p w s → is_live_row r p ≡ ltb 1 (depth s) && has_at_top s.scope.names name

abbrev pub removed : ℕ → State → State
removed x s = with_names (remove x s.scope.names) s

-- The live names by row, the oldest in row 0

-- those before row i, newest first; and those from row i on, oldest first
abbrev pub before : ℕ → List (Live Ident) → List (Live Ident)
before i l = drop (length l - i) l

abbrev pub since : ℕ → List (Live Ident) → List (Live Ident)
since i l = reverse (take (length l - i) l)

-- the row r of the map is the live name in row i
pub record LiveRow (l : List (Live Ident)) (i : ℕ) (r : Row) : Type 0 where
  pub live : Live Ident
  pub name : r.name ≡ live.name
  pub layer : r.layer ≡ live.layer
  pub value : r.value ≡ live.value.at
  pub up : before (suc i) l ≡ live ∷ before i l
  pub on : since i l ≡ live ∷ since (suc i) l

pub record TellsLive (p : Pass) (w : List ℕ) (i : ℕ) (r : Row) : Type 0 where
  pub is : (s : State) → Works p w s → LiveRow s.scope.names.live i r

-- the newest layer's names are those from row r on
pub record StartsLayer (p : Pass) (w : List ℕ) (r : ℕ) : Type 0 where
  pub is : (s : State) → Works p w s → newest_layer s.scope.names ≡ since r s.scope.names.live
  pub rows : Starts p.scope (region w 0 scope_length) r
