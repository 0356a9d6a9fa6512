-- `binder_at`: a number of the binders' part.
use Rattle.work.proofs.BinderCase.{tells_binder}
use Rattle.work.proofs.captures.binder_at.Goals as goal

pub returns : goal.returns
returns c = tells_binder _ _ c.requires.1 c.wide.ensures
