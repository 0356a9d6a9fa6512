-- `note_live`, by its two ways.
use Rattle.work.proofs.NoteCase.{the_nine, no_nine}
use Rattle.work.proofs.notes.note_live.Goals as goal

pub returns-then-live : goal.returns-then-live
returns-then-live c = the_nine _ c.if-live.true c.note_nine.ensures

pub returns : goal.returns
returns c = no_nine _ c.if-live.false
