-- `search_rows`.
use Rattle.amending.proofs.KeptCase.{stands_here, stands_later}
use Rattle.amending.proofs.amend.search_rows.Goals as goal

pub returns-then-name_at-name : goal.returns-then-name_at-name
returns-then-name_at-name c = stands_here c.loop-i.invariant c.name_at.ensures c.loop-i-test.true c.requires.2 c.if-name_at-name.true

pub loop-i-preserved : goal.loop-i-preserved
loop-i-preserved c = stands_later c.loop-i.invariant c.name_at.ensures c.loop-i-test.true c.requires.2 c.if-name_at-name.false
