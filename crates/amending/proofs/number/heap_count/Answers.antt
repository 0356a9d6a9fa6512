-- `heap_count`.
use native.Mathlib.Omega.{arith}
use Prim.Native.Nat.{◌+◌}
use mathlib.Core.Path.{◌≡◌}
use mathlib.Core.Bool.{cond}
use Rattle.lists.specs.Laws.Counting.{few}
use Rattle.amending.proofs.CountCase.{heap_next, heap_last}
use Rattle.amending.proofs.number.heap_count.Goals.{then-is_heap, else-is_heap}
use Rattle.amending.proofs.number.heap_count.Goals as goal

pub loop-k-preserved : goal.loop-k-preserved
loop-k-preserved c =
    let b = c.is_heap.result in
    let q : c.if-is_heap.h ≡ c.loop-k.h + cond b 1 0 = elim c.if-is_heap.branch [
      | then-is_heap w ↦ let e = w.if-is_heap.true in rw e w.h-is
      | else-is_heap w ↦ let e = w.if-is_heap.false in rw e (omega (arith, w.h-is))
    ] in
    record {
      few = few b q c.loop-k.invariant.few;
      counted = heap_next c.loop-k.invariant.counted c.is_heap.ensures c.loop-k-test.true (omega (arith, c.requires.0)) q;
    }

pub returns-clause-counts_heap : goal.returns-clause-counts_heap
returns-clause-counts_heap c =
    heap_last c.loop-k.invariant.counted c.args.e c.loop-k.auto.k-end c.loop-k-test.false c.wide-first.ensures c.wide-n.ensures
