-- `mark_lasts`: the names of the layer one after another.
use Rattle.binders.proofs.EndsCase.{Lasting}
use Rattle.binders.proofs.leave.mark_lasts.Given as goal

abbrev pub invariant-loop-i : goal.invariant-loop-i
invariant-loop-i l = Lasting l.p l.initial.facts l.work l.i l.facts
