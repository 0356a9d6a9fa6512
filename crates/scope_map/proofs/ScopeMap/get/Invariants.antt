-- `get`: the search among the first i rows finds what the search among all does, since the rows from the bound on do not have the name.
use Prim.Native.Nat.{◌≤◌}
use mathlib.Core.Path.{◌≡◌}
use Rattle.scope_map.specs.Rows.{live_in}
use Rattle.scope_map.specs.Held.{found_in}
use Rattle.scope_map.proofs.ScopeMap.get.Given as goal

abbrev pub invariant-loop-i : goal.invariant-loop-i
invariant-loop-i l = (l.i ≤ l.initial.i) × (found_in (live_in l.t l.i) l.name ≡ found_in (live_in l.t l.initial.i) l.name)
