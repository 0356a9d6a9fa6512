-- `end_parameters`: the parameters one after another.
use Rattle.binders.proofs.EndsCase.{Ending}
use Rattle.binders.proofs.leave.end_parameters.Given as goal

abbrev pub invariant-loop-at : goal.invariant-loop-at
invariant-loop-at l = Ending l.all l.fn.names l.p l.initial.facts l.work l.at l.facts
