-- `is_tail`: of a call the row's second number tells.
use Rattle.printing.proofs.Count.{tail_told}
use Rattle.printing.proofs.summary.is_tail.Goals as goal

pub returns-then-is_call : goal.returns-then-is_call
returns-then-is_call c = tail_told c.args.facts.now c.args.at c.is_call.ensures c.if-is_call.true
