-- `search_rows`: whether the name stands in the rows is whether it stands in those from i on.
use Rattle.amending.proofs.KeptCase.{StandsFrom}
use Rattle.amending.proofs.amend.search_rows.Given as goal

abbrev pub invariant-loop-i : goal.invariant-loop-i
invariant-loop-i l = StandsFrom l.captured l.first l.end l.name l.i
