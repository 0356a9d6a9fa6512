-- `uses_name`: the records are passed one by one, with the names that are due.
use Rattle.walk.proofs.UsedNames.{Passed}
use Rattle.walk.proofs.uses.uses_name.Given as goal

abbrev pub invariant-loop-i : goal.invariant-loop-i
invariant-loop-i l = Passed l.name l.all l.first l.end l.due l.i
