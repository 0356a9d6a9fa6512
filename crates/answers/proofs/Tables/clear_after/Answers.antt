-- `clear_after`: facts stay where nothing is refused.
use Rattle.std.proofs.Common.{ap}
use Rattle.answers.specs.Answer.{refusal_in}
use Rattle.answers.specs.Laws.Lengths.{long}
use Rattle.answers.proofs.Tables.clear_after.Goals as goal

pub clear_work-requires : goal.clear_work-requires
clear_work-requires c = ((long _ c.requires.lengths).work, c.requires.rested (ap refusal_in c.in-Ok.is))

pub returns-in-Ok-clause-left : goal.returns-in-Ok-clause-left
returns-in-Ok-clause-left c = rw (c.in-Ok.is, c.clear_work.ensures)
