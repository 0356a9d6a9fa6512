-- `is_heap`: both fields come back from the row's number.
use Rattle.semantic.proofs.ListEntryCase.{heap_told, no_heap_told}
use Rattle.semantic.proofs.list_entries.is_heap.Goals as goal

pub returns-then-marks-eq1 : goal.returns-then-marks-eq1
returns-then-marks-eq1 c = heap_told _ _ c.if-marks-eq1.true

pub returns-else-marks-eq1 : goal.returns-else-marks-eq1
returns-else-marks-eq1 c = no_heap_told _ _ c.if-marks-eq1.false
