-- `heap_count`: those of the rows from `first` + k on, and those before.
use Prim.Native.Nat.{◌≤◌}
use Rattle.amending.proofs.CountCase.{Counted}
use Rattle.amending.proofs.number.heap_count.Given as goal

abbrev pub invariant-loop-k : goal.invariant-loop-k
invariant-loop-k l = record { few : l.h ≤ l.k; counted : Counted l.t l.first l.n l.h l.k }
