-- `too_deep`: one tree after another.
use Prim.Native.Nat.{◌-◌}
use lib.ListN.{length}
use Rattle.tree.specs.Record.{records}
use Rattle.scans.proofs.Nesting.{Top}
use Rattle.scans.proofs.nest.too_deep.Given as goal

abbrev pub invariant-loop-next : goal.invariant-loop-next
invariant-loop-next l = Top (records l.rs) l.next

abbrev pub decreases-loop-next : goal.decreases-loop-next
decreases-loop-next l = length (records l.rs) - l.next
