-- `run`: the operation that is asked for.
use Rattle.analysis_main.proofs.Operation.run.Goals as goal

pub returns-in-Fresh : goal.returns-in-Fresh
returns-in-Fresh c = rw c.in-Fresh.is c.fresh.ensures.answers

pub returns-in-Settled : goal.returns-in-Settled
returns-in-Settled c = rw c.in-Settled.is c.settled.ensures.answers
