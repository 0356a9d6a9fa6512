-- `too_deep`: one tree after another.
use native.Mathlib.Omega.{arith}
use Rattle.tree.specs.Check.{check5}
use Rattle.scans.proofs.Nesting.{top_next, top_deep, top_ends, top_end}
use Rattle.scans.proofs.nest.too_deep.Goals as goal

pub loop-next-preserved : goal.loop-next-preserved
loop-next-preserved c = top_next c.loop-next.invariant _ c.in-Ok.ensures

pub returns-in-Err-Deep : goal.returns-in-Err-Deep
unfolding check5
returns-in-Err-Deep c = λ N. top_deep c.loop-next.invariant _ (rw (c.in-Err-Deep.is, c.in-Err-Deep.field-0-is) at c.nest.ensures)

pub returns-in-Err-Ended : goal.returns-in-Err-Ended
unfolding check5
returns-in-Err-Ended c = λ N. top_ends c.loop-next.invariant (rw (c.in-Err-Ended.is, c.in-Err-Ended.field-0-is) at c.nest.ensures)

pub returns : goal.returns
unfolding check5
returns c = λ N. top_end c.loop-next.invariant (omega arith)
