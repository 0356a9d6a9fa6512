-- `run_once`: from blank tables to the fresh outcome.
use Rattle.analysis.proofs.Runs.{first_ready, fresh_ends}
use Rattle.analysis.proofs.run_once.Goals as goal

pub run_with-p-requires-clause-ready : goal.run_with-p-requires-clause-ready
run_with-p-requires-clause-ready c = first_ready c.requires.begins c.new.ensures

pub returns-clause-ends : goal.returns-clause-ends
returns-clause-ends c = fresh_ends c.requires.begins c.new.ensures c.run_with-p.ensures.runs c.refused_first.ensures.refusal
