-- `extent_at`: the children to come are counted.
use Prim.Native.Nat.{◌-◌}
use lib.ListN.{length}
use Rattle.tree.specs.Record.{records}
use Rattle.walk.proofs.Span.{Passed}
use Rattle.walk.proofs.extent.extent_at.Given as goal

abbrev pub invariant-loop-open : goal.invariant-loop-open
invariant-loop-open l = Passed l.all l.at l.open l.i

abbrev pub decreases-loop-open : goal.decreases-loop-open
decreases-loop-open l = length (records l.all) - l.i
