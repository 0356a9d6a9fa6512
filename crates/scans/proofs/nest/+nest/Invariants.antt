-- `nest`: the walk of a tree. The number of records left in the part falls with each call.
use Prim.Native.Nat.{◌-◌}
use lib.ListN.{length}
use Rattle.tree.specs.Record.{records}
use Rattle.scans.proofs.Nesting.{Walking}
use Rattle.scans.proofs.nest.+nest.Given as goal

abbrev pub decreases-nest : goal.decreases-nest
decreases-nest l = length (records l.rs.now) - l.at

abbrev pub invariant-loop : goal.invariant-loop
invariant-loop l = Walking (records l.rs) l.at l.level l.end l.counter l.next
