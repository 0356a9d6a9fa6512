-- `field_outside`: a search for a record that does not fit.
use Rattle.scans.proofs.Search.{outside, At}
use Rattle.scans.proofs.scan.field_outside.Given as goal

abbrev pub invariant-loop-i : goal.invariant-loop-i
invariant-loop-i l = At (outside l.names) l.rs l.i
