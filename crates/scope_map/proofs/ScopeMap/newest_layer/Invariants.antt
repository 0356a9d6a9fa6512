-- `newest_layer`: what lies below the layer is the same among the first i rows as among all.
use Prim.Native.Nat.{◌≤◌}
use mathlib.Core.Path.{◌≡◌}
use Rattle.scope_map.specs.ScopeMap.{below_layer}
use Rattle.scope_map.specs.Rows.{live_in}
use Rattle.scope_map.proofs.ScopeMap.newest_layer.Given as goal

abbrev pub invariant-loop-i : goal.invariant-loop-i
invariant-loop-i l = (l.i ≤ l.initial.i) × (below_layer l.self.depth (live_in l.t l.i) ≡ below_layer l.self.depth (live_in l.t l.initial.i))
