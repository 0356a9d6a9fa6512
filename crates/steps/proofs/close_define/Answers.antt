-- `close_define`: what the name that enters changes is put into the pass.
use Rattle.steps.proofs.close_define.Goals as goal

pub returns : goal.returns
returns c = rw c.put_name.ensures c.close_define-d.ensures
