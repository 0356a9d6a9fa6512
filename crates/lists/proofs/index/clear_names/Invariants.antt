-- `clear_names`: the names from the i-th on are left.
use Rattle.lists.proofs.IndexCase.{ClearFrom}
use Rattle.lists.proofs.index.clear_names.Given as goal

abbrev pub invariant-loop-i : goal.invariant-loop-i
invariant-loop-i l = ClearFrom l.all l.names l.initial.index l.i l.index
