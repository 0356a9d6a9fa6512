-- `with_capture_offsets`: two numbers of the row change.
use Rattle.semantic.proofs.ListEntryCase.{sets_capture_offsets}
use Rattle.semantic.proofs.list_entries.with_capture_offsets.Goals as goal

pub returns : goal.returns
returns c = sets_capture_offsets _ _ _ _
