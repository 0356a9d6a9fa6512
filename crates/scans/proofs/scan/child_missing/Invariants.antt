-- `child_missing`: the children to come are counted.
use Rattle.scans.proofs.Missing.{Counting}
use Rattle.scans.proofs.scan.child_missing.Given as goal

abbrev pub invariant-loop-i : goal.invariant-loop-i
invariant-loop-i l = Counting l.rs l.i l.places
