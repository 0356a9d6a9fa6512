-- `nest`: the walk of a tree.
use native.Mathlib.Omega.{arith}
use Rattle.std.proofs.lemmas.Result.{err_from_is_err_and}
use Rattle.scans.proofs.Nesting.{ends, deep_here, walk_begin, walk_next, stops, walk_end}
use Rattle.scans.proofs.nest.+nest.Goals as goal

pub returns-then-len-at : goal.returns-then-len-at
returns-then-len-at t c = ends _ _ _ (omega arith)

pub returns-then-level-gt-DEEPEST : goal.returns-then-level-gt-DEEPEST
returns-then-level-gt-DEEPEST t c = deep_here _ _ _ (omega arith) c.if-level-gt-DEEPEST.true

pub loop-init : goal.loop-init
loop-init t c = walk_begin _ _ _ (omega arith) c.if-level-gt-DEEPEST.false _ c.children-end.ensures.value

pub returns-in_err-next : goal.returns-in_err-next
returns-in_err-next t c =
    let p = err_from_is_err_and c.from_residual.result c.from_residual.ensures.1 in
    rw (p.1, p.2) (stops c.loop.invariant c.loop-test.true _ (rw c.in_err-next.was at c.nest.ensures))

pub loop-preserved : goal.loop-preserved
loop-preserved t c = walk_next c.loop.invariant c.loop-test.true _ (rw c.in_ok-next.was at c.nest.ensures)

pub returns : goal.returns
returns t c = walk_end c.loop.invariant c.loop-test.false
