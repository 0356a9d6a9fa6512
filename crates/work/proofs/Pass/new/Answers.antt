-- `Pass::new`: both maps are new.
use Rattle.work.proofs.PassCase.{pass_new_lem}
use Rattle.work.proofs.Pass.new.Goals as goal

pub returns : goal.returns
returns c = pass_new_lem _ _ _ _ c.new.ensures c.new-2.ensures
