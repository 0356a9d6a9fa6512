-- `clear`: none of the checks applies to the records so far, and those at top level are listed.
use Rattle.checks.proofs.Listing.{Storing}
use Rattle.checks.proofs.Sweeping.{Sweeping}
use Rattle.checks.proofs.sweep.clear.Given as goal

abbrev pub invariant-loop-i : goal.invariant-loop-i
invariant-loop-i l = (Sweeping l.names l.rs l.tops l.kept l.inner l.due l.top l.i) × Storing l.rs l.initial.tops l.tops l.top
