-- The rule that decides a read, as the code tells it.
use Rattle.std.specs.Prelude.{ℕ, ◌≡◌, Some}
use Rattle.tree.specs.Tree.{Ident}
use Rattle.scope_map.specs.ScopeMap.{Live, get}
use Rattle.pass.specs.State.{State, Capture}
use Rattle.pass.specs.Read as pass
use Rattle.work.specs.Captures.{capture_found}
use Rattle.names.specs.declared.read.Rule.{Rule}
use Rattle.names.specs.declared.read.Rule.TheVariants.{NoEntry, DepthOne, CurrentLayer, TakenCapture, HomeSlot}

-- a capture that stands at this place, for this row
pub record Stands (s : State) (x place row : ℕ) (c : Capture) : Type 0 where
  pub live : Live Capture
  pub is : live.value ≡ c
  pub newest : get s.captures x ≡ Some live
  pub found : capture_found s x ≡ Some (record { row = place; layer = live.layer; value = row })
  pub stands_for : row ≡ c.row

-- the code's rule says what the pass's does, for the name x
pub data Same (s : State) (x : ℕ) : Rule → pass.Rule → Type 0 where
  no_entry_lem : Same s x NoEntry pass.no_entry
  depth-one : {i : ℕ} {b : Ident} → b.at ≡ i → Same s x (DepthOne i) (pass.depth_one b)
  same_current_layer : {i : ℕ} {b : Ident} → b.at ≡ i → Same s x (CurrentLayer i) (pass.current_layer b)
  taken-capture : {i place row : ℕ} {b : Ident} {c : Capture} → b.at ≡ i → Stands s x place row c → Same s x (TakenCapture i place row) (pass.taken_capture b c)
  same_home_slot : {i : ℕ} {b : Ident} → b.at ≡ i → Same s x (HomeSlot i) (pass.home_slot b)
