-- `ordered`: the records before record i are in order, and the last id is the furthest.
use Rattle.scans.proofs.Ordered.{Ordering}
use Rattle.scans.proofs.ids.ordered.Given as goal

abbrev pub invariant-loop-i : goal.invariant-loop-i
invariant-loop-i l = Ordering l.rising l.rs l.last l.i
