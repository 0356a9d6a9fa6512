-- `is_heap`: a place that the list does not have, or an entry of it.
use native.Mathlib.Omega.{arith}
use Rattle.binders.proofs.EnterCase.{no_heap, heap_told}
use Rattle.binders.proofs.enter.is_heap.Goals as goal

pub returns-then-wide-j : goal.returns-then-wide-j
returns-then-wide-j c = no_heap _ _ _ (omega (arith, c.wide.ensures))

pub returns : goal.returns
returns c = heap_told _ _ _ (omega (arith, c.wide.ensures)) c.requires.0 (omega (arith, c.wide-2.ensures)) c.is_heap.ensures
