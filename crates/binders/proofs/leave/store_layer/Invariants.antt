-- `store_layer`: the names of the layer one after another.
use Rattle.binders.proofs.ArgumentsCase.{Layering}
use Rattle.binders.proofs.leave.store_layer.Given as goal

abbrev pub invariant-loop-i : goal.invariant-loop-i
invariant-loop-i l = Layering l.all l.p l.initial.arguments l.work l.to l.i l.arguments
