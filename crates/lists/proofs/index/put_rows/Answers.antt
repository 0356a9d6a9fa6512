-- `put_rows`: the live names before row i are put.
use Rattle.lists.proofs.IndexCase.{put-start, put_next, put_last}
use Rattle.lists.proofs.index.put_rows.Goals as goal

pub loop-i-init : goal.loop-i-init
loop-i-init c = put-start c.args.index.now c.requires.1

pub loop-i-preserved : goal.loop-i-preserved
loop-i-preserved c = put_next c.loop-i.invariant c.put_row.ensures c.put_row.auto.index c.loop-i-test.true

pub returns : goal.returns
returns c = put_last c.loop-i.invariant c.loop-i-test.false
