-- `open_define`: what the name that enters changes is put into the pass.
use Rattle.steps.proofs.open_define.Goals as goal

pub returns : goal.returns
returns c = rw c.put_name.ensures c.open_define-d.ensures
