-- `set_binder`: a number of the binders' part is written.
use Rattle.work.proofs.BinderCase.{stores_binder}
use Rattle.work.proofs.captures.set_binder.Goals as goal

pub returns : goal.returns
returns c = stores_binder _ _ c.requires.1 c.requires.0 c.narrow.ensures
