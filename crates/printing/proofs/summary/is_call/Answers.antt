-- `is_call`: the row's first number tells.
use Rattle.printing.proofs.Count.{call_told}
use Rattle.printing.proofs.summary.is_call.Goals as goal

pub returns : goal.returns
returns c = let o = c.args in call_told o.facts.now o.at
