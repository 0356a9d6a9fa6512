-- `core_at`: ands of one child are stepped over.
use Prim.Native.Nat.{◌-◌}
use lib.ListN.{length}
use Rattle.tree.specs.Record.{records}
use Rattle.walk.proofs.Peeling.{Peeling}
use Rattle.walk.proofs.body.core_at.Given as goal

abbrev pub invariant-loop-i : goal.invariant-loop-i
invariant-loop-i l = Peeling l.all l.at l.i

abbrev pub decreases-loop-i : goal.decreases-loop-i
decreases-loop-i l = length (records l.all) - l.i
