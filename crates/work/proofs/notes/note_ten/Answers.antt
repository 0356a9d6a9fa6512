-- `note_ten`: the table stays.
use Rattle.work.proofs.NoteCase.{ten_noted_lem}
use Rattle.work.proofs.notes.note_ten.Goals as goal

pub returns : goal.returns
returns c = ten_noted_lem c.narrow.ensures c.or.ensures c.with_notes.ensures
