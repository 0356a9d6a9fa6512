-- `count_rows`: the live names before row i are counted.
use Rattle.amending.proofs.TallyCase.{tally_start, tally_next, tally_last}
use Rattle.amending.proofs.counts.count_rows.Goals as goal

pub loop-i-init : goal.loop-i-init
loop-i-init c = tally_start c.requires.2

pub loop-i-preserved : goal.loop-i-preserved
loop-i-preserved c = tally_next c.loop-i.invariant c.count_row.ensures c.count_row.auto.counts c.loop-i-test.true

pub returns : goal.returns
returns c = tally_last c.loop-i.invariant c.loop-i-test.false
