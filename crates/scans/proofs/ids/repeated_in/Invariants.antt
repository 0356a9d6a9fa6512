-- `repeated_in`: what is repeated among all is repeated from record i on, and the records before it are chained.
use mathlib.Core.Path.{◌≡◌}
use lib.ListN.{length}
use Rattle.scans.specs.Private.Chain.{Chains}
use Rattle.scans.proofs.Repeated.{Compared}
use Rattle.scans.proofs.ids.repeated_in.Given as goal

abbrev pub invariant-loop-i : goal.invariant-loop-i
invariant-loop-i l = Compared l.rs l.i × (Chains l.rs l.newest l.before l.i) × (length l.newest ≡ length l.initial.newest) × (length l.before ≡ length l.initial.before)
