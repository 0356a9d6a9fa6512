-- `put_offsets`.
use Rattle.amending.proofs.NearCase.{puts_heap, puts_capture}
use Rattle.amending.proofs.number.put_offsets.Goals as goal

pub returns-then-heap : goal.returns-then-heap
returns-then-heap c =
    puts_heap c.offsets_from-f.ensures c.if-heap.true c.with_heap_offsets.ensures

pub returns-else-heap : goal.returns-else-heap
returns-else-heap c =
    puts_capture c.offsets_from-f.ensures c.if-heap.false c.with_capture_offsets.ensures
