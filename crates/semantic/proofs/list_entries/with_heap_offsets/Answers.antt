-- `with_heap_offsets`: four numbers of the row change.
use Rattle.semantic.proofs.ListEntryCase.{sets_heap_offsets}
use Rattle.semantic.proofs.list_entries.with_heap_offsets.Goals as goal

pub returns : goal.returns
returns c = sets_heap_offsets _ _ _ _ _ _
