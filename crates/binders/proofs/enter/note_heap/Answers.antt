-- `note_heap`: on the heap with no lambda around, and else.
use mathlib.Core.Bool.{not}
use mathlib.Core.Path.{ap, ◌∙◌}
use Rattle.binders.proofs.EnterCase.{notes_none, notes_around, notes_alone}
use Rattle.binders.proofs.enter.note_heap.Goals.{else-heap-via-then-heap+else-is_none, else-heap-via-else-heap}
use Rattle.binders.proofs.enter.note_heap.Goals as goal

pub returns-then-is_none : goal.returns-then-is_none
returns-then-is_none c = notes_alone _ _ c.if-heap.true (c.is_none.ensures ∙ ap not c.if-is_none.true) c.narrow.ensures c.or.ensures

pub returns-else-heap : goal.returns-else-heap
returns-else-heap c = elim c.else-heap.branch [
  | else-heap-via-then-heap+else-is_none w ↦ notes_around _ _ (w.is_none.ensures ∙ ap not w.if-is_none.false)
  | else-heap-via-else-heap w ↦ notes_none _ w.if-heap.false
]
