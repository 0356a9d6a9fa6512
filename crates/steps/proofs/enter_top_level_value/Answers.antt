-- `enter_top_level_value`: what the name that enters changes is put into the pass.
use Rattle.steps.proofs.enter_top_level_value.Goals as goal

pub returns : goal.returns
returns c = rw c.put_name.ensures c.enter_top_level_value-e.ensures
