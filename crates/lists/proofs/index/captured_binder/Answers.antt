-- `captured_binder`: the newest binder, then its entry.
use Rattle.work.specs.Laws.Works.{spacious}
use Rattle.lists.proofs.EntryCase.{newest-none, newest-inside, newest-some}
use Rattle.lists.proofs.index.captured_binder.Goals as goal

pub newest-requires : goal.newest-requires
newest-requires c = spacious c.requires.here.works

pub returns-in_err-newest : goal.returns-in_err-newest
returns-in_err-newest c = rw c.from_residual.ensures (newest-none _ _ c.newest.ensures c.in_err-newest.was)

pub where_captured-requires : goal.where_captured-requires
where_captured-requires c = (c.requires.here.works.long, newest-inside _ _ c.newest.ensures c.in_ok-newest.was c.requires.here)

pub returns : goal.returns
returns c = newest-some _ _ c.newest.ensures c.in_ok-newest.was c.requires.here c.where_captured.ensures
