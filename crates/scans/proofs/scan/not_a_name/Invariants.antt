-- `not_a_name`: the names due are those of the innermost open record.
use Rattle.scans.proofs.Naming.{Naming}
use Rattle.scans.proofs.scan.not_a_name.Given as goal

abbrev pub invariant-loop-i : goal.invariant-loop-i
invariant-loop-i l = Naming l.rs l.i l.due
