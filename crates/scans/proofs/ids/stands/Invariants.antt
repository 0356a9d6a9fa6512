-- `stands`: a walk along a chain, newest first.
use mathlib.Core.Path.{◌≡◌}
use Rattle.tree.specs.Check.{member}
use Rattle.scans.specs.Private.Seen.{seen}
use Rattle.scans.specs.Private.Chain.{Chain}
use Rattle.scans.proofs.ids.stands.Given as goal

abbrev pub invariant-loop-p : goal.invariant-loop-p
invariant-loop-p l = Chain l.rs l.before l.id l.p × (member l.id (seen l.rs l.last) ≡ member l.id (seen l.rs l.p)) × (l.id ≡ 0 → l.p ≡ 0)

abbrev pub decreases-loop-p : goal.decreases-loop-p
decreases-loop-p l = l.p
