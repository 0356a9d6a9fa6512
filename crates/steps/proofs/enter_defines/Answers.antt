-- `enter_defines`: what the name that enters changes is put into the pass.
use Rattle.steps.proofs.enter_defines.Goals as goal

pub returns : goal.returns
returns c = rw c.put_name.ensures c.enter_children-e.ensures
