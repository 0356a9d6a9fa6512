-- `note_nine`: the table stays.
use Rattle.work.proofs.NoteCase.{nine_noted}
use Rattle.work.proofs.notes.note_nine.Goals as goal

pub returns : goal.returns
returns c = nine_noted c.narrow.ensures c.or.ensures c.with_notes.ensures
