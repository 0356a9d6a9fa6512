-- What the functions over the captures promise.
use Rattle.std.specs.Prelude.{ℕ, ◌+◌, ◌*◌, ◌/◌, ◌%◌, List, ◌≡◌, length, get_or, set, eqb, Option, Some}
use Rattle.std.proofs.lemmas.List.Edits.{sets}
use Rattle.table.specs.Region.{region, replaced}
use Rattle.scope_map.specs.ScopeMap.{Live, get, define, push_layer}
use Rattle.scope_map.specs.Map.{map_live}
use Rattle.scope_map.specs.Held.{found_in, Becomes}
use Rattle.scope_map.specs.declared.ScopeMap.{ScopeMap as Map}
use Rattle.scope_map.specs.declared.Found.{Found}
use Rattle.semantic.specs.Rows.{ListEntry}
use Rattle.pass.specs.State.{State, Capture, list_entry_at, with_captures, with_captured}
use Rattle.pass.specs.Read.{use_capture}
use Rattle.pass.specs.Run.{rows_most}
use Rattle.work.specs.Coded.{capture_of, capture_width, put_capture}
use Rattle.work.specs.Works.{captures_first, captures_length, capture_data_first, row_of, Works}
use Rattle.work.specs.Passes.{in_captures}
use Rattle.work.specs.declared.Pass.{Pass}
use Rattle.work.specs.declared.captures.Capture.{Capture as CodedCapture}

-- as it is read from its row
unfoldable pub capture_in : List ℕ → CodedCapture
capture_in r = record {
  binder = get_or r 1 0 % rows_most;
  id = get_or r 0 0;
  uses = get_or r 1 0 / rows_most / 2;
  enclosing = eqb (get_or r 1 0 / rows_most % 2) 1;
}

-- a layer opens
abbrev pub opened : State → State
opened s = with_captures (push_layer s.captures) s

-- the newest capture of a name: its place, its layer and its row
abbrev pub capture_found : State → ℕ → Option Found
capture_found s x = found_in (map_live row_of s.captures.live) x

pub record GetsCapture (p : Pass) (w : List ℕ) (x : ℕ) (r : Option Found) : Type 0 where
  pub is : (s : State) → Works p w s → r ≡ capture_found s x

pub record LoadsCapture (w : List ℕ) (place : ℕ) (r : CodedCapture) : Type 0 where
  pub is : (p : Pass) (s : State) (x d v : ℕ) (c : Live Capture) → Works p w s → capture_found s x ≡ Some (record { row = place; layer = d; value = v }) → get s.captures x ≡ Some c
      → r ≡ capture_of c.value

pub record UsesCapture (w : List ℕ) (place : ℕ) (w' : List ℕ) : Type 0 where
  pub is : (p : Pass) (s : State) (x d v : ℕ) → Works p w s → capture_found s x ≡ Some (record { row = place; layer = d; value = v }) → Works p w' (use_capture x s)

-- the map has the capture; p' and w' are as they were but for the map
pub record DefinesRow (p : Pass) (w : List ℕ) (x r : ℕ) (p' : Pass) (w' : List ℕ) : Type 0 where
  pub m : Map
  pub ys : List ℕ
  pub long : length ys ≡ length (region w captures_first captures_length)
  pub pass : p' ≡ in_captures m p
  pub table : w' ≡ replaced w captures_first captures_length ys
  pub becomes : Becomes p.captures (region w captures_first captures_length) (define x r) m ys

-- what is known of the capture at the place i is t
abbrev pub capture_put : List ℕ → ℕ → CodedCapture → List ℕ
capture_put w i t = sets w (capture_data_first + capture_width * i) (put_capture t)

pub record DefinesCapture (p : Pass) (w : List ℕ) (x r : ℕ) (t : CodedCapture) (p' : Pass) (w' : List ℕ) : Type 0 where
  pub is : (s : State) (c : Capture) → c.row ≡ r → capture_of c ≡ t → Works p w s → Works p' w' (with_captures (define x c s.captures) s)

-- The binders of the captured entries

pub record TellsBinder (w : List ℕ) (r b : ℕ) : Type 0 where
  pub is : (p : Pass) (s : State) → Works p w s → b ≡ (list_entry_at s r).binder.at

-- the captured entry in row r is another, with this binder
pub record StoresBinder (w : List ℕ) (r b : ℕ) (w' : List ℕ) : Type 0 where
  pub is : (p : Pass) (s : State) (x : ListEntry) → x.binder.at ≡ b → Works p w s → Works p w' (with_captured (set s.facts.captured r x) s)
