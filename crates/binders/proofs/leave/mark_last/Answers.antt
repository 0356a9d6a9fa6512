-- `mark_last`: 0 is no record.
use Rattle.binders.proofs.EndsCase.{marks-last, marks-none}
use Rattle.binders.proofs.leave.mark_last.Goals as goal

pub returns-then-last-ne0 : goal.returns-then-last-ne0
returns-then-last-ne0 c = marks-last c.if-last-ne0.true c.requires.0 c.wide.ensures c.mark_last_usage.ensures

pub returns-else-last-ne0 : goal.returns-else-last-ne0
returns-else-last-ne0 c = marks-none c.if-last-ne0.false
