-- `child_missing`: the children to come are counted.
use Rattle.std.specs.Prelude.{Some}
use native.Mathlib.Omega.{arith}
use Prim.Native.Nat.{◌+◌}
use mathlib.Core.Path.{ap, ◌∙◌}
use Rattle.scans.proofs.Missing.{Counting, count_begin, count_next, none_missing, some_missing}
use Rattle.scans.proofs.scan.child_missing.Goals.{After-children}
use Rattle.scans.proofs.scan.child_missing.Goals as goal

turn : (c : After-children) → let l = c in Counting l.args.rs.now (l.loop-i.i + 1) (c.taken.result + c.children.result)
turn c = count_next c.loop-i.invariant (omega arith) _ _ c.taken.ensures c.children.ensures.value c.children.ensures.few

pub loop-i-init : goal.loop-i-init
loop-i-init c = count_begin _

pub overflow_add-places : goal.overflow_add-places
overflow_add-places c = omega (arith, (turn (goal.at.overflow_add-places c).After-children).few)

pub loop-i-preserved : goal.loop-i-preserved
loop-i-preserved c = turn (goal.at.loop-i-preserved c).After-children

pub returns-then-places-eq0 : goal.returns-then-places-eq0
returns-then-places-eq0 c = λ N. none_missing c.loop-i.invariant (omega arith) N c.if-places-eq0.true

pub returns-else-places-eq0 : goal.returns-else-places-eq0
returns-else-places-eq0 c = λ N. ap Some c.len-n.ensures ∙ some_missing c.loop-i.invariant (omega arith) N c.if-places-eq0.false
