-- `enclosing_in`.
use Rattle.amending.proofs.KeptCase.{once_no, once_yes}
use Rattle.amending.proofs.amend.enclosing_in.Goals as goal

pub returns-then-n-eq1 : goal.returns-then-n-eq1
returns-then-n-eq1 c = once_yes _ _ c.if-n-eq1.true c.enclosing_of.ensures

pub returns-else-n-eq1 : goal.returns-else-n-eq1
returns-else-n-eq1 c = once_no _ _ c.if-n-eq1.false
