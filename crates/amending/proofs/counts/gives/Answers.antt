-- `gives`.
use Rattle.work.specs.Laws.Works.{spacious}
use Rattle.amending.proofs.NowCase.{gives_no, gives_yes}
use Rattle.amending.proofs.counts.gives.Goals as goal

pub live_at-requires : goal.live_at-requires
live_at-requires c = (spacious c.requires.1.works, c.requires.2)

pub returns-then-live_at-name : goal.returns-then-live_at-name
returns-then-live_at-name c = gives_yes c.live_at.ensures c.if-live_at-name.true c.captured_at.ensures c.is_some.ensures

pub returns-else-live_at-name : goal.returns-else-live_at-name
returns-else-live_at-name c = gives_no c.live_at.ensures c.if-live_at-name.false
