-- `mark_if_tail`: the arguments of a tail call alone.
use Rattle.forms.proofs.CallsCase.{marks_if, marks-not}
use Rattle.forms.proofs.calls.mark_if_tail.Goals as goal

pub returns-then-eligible : goal.returns-then-eligible
returns-then-eligible c = marks_if c.if-eligible.true c.mark_arguments.ensures

pub returns-else-eligible : goal.returns-else-eligible
returns-else-eligible c = marks-not c.if-eligible.false
