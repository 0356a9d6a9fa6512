-- `leave_names`: the names one after another.
use Rattle.binders.proofs.EndsCase.{Leaving}
use Rattle.binders.proofs.leave.leave_names.Given as goal

abbrev pub invariant-loop-at : goal.invariant-loop-at
invariant-loop-at l = Leaving l.all l.fn.names l.initial.q l.initial.facts l.initial.work l.at l.q l.facts l.work
