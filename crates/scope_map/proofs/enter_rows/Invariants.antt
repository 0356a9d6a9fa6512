-- `enter_rows`: the rows before k have entered.
use Prim.Native.Nat.{◌≤◌}
use Rattle.scope_map.specs.Hints.{Moves}
use Rattle.scope_map.proofs.enter_rows.Given as goal

abbrev pub invariant-loop-k : goal.invariant-loop-k
invariant-loop-k l = (l.i ≤ l.k) × (l.k ≤ l.n) × Moves l.initial.t l.i l.k l.t
