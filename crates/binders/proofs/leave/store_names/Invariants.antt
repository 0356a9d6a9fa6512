-- `store_names`: the names one after another.
use Rattle.binders.proofs.ArgumentsCase.{Storing}
use Rattle.binders.proofs.leave.store_names.Given as goal

abbrev pub invariant-loop-at : goal.invariant-loop-at
invariant-loop-at l = Storing l.all l.fn.names l.p l.initial.arguments l.work l.to l.at l.arguments
