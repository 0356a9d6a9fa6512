-- `count_rows`: the live names before row i are counted.
use Rattle.amending.proofs.TallyCase.{TalliedTo}
use Rattle.amending.proofs.counts.count_rows.Given as goal

abbrev pub invariant-loop-i : goal.invariant-loop-i
invariant-loop-i l = TalliedTo l.all l.d l.p l.work l.index l.used l.i l.counts
