-- `leave_rows`: the rows from k on have left.
use Prim.Native.Nat.{◌≤◌}
use Rattle.scope_map.specs.Hints.{Leaves}
use Rattle.scope_map.proofs.leave_rows.Given as goal

abbrev pub invariant-loop-k : goal.invariant-loop-k
invariant-loop-k l = (l.i ≤ l.k) × (l.k ≤ l.n) × Leaves l.initial.t l.k l.n l.t
