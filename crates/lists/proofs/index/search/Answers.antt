-- `search`.
use Rattle.lists.proofs.GivenCase.{offers_nothing, offers_parameter, offers_other}
use Rattle.lists.proofs.index.search.Goals as goal

pub returns-in_err-b : goal.returns-in_err-b
returns-in_err-b c = rw c.from_residual.ensures (offers_nothing c.in_err-b.was c.captured_binder.ensures)

pub returns-then-holds : goal.returns-then-holds
returns-then-holds c = offers_parameter c.holds.ensures c.if-holds.true

pub returns : goal.returns
returns c = offers_other c.holds.ensures c.if-holds.false c.in_ok-b.was c.captured_binder.ensures
