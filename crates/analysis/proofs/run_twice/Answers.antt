-- `run_twice`: the second run starts with the facts of the first, if that was not refused.
use native.Mathlib.Omega.{arith}
use Rattle.analysis.proofs.Answers.{refused_by, told_by}
use Rattle.analysis.proofs.Runs.{work_long_lem, first_ready, first_rested, refused_ends, second_ready, settled_ends}
use Rattle.analysis.proofs.run_twice.Goals as goal

pub run_with-p-requires-clause-ready : goal.run_with-p-requires-clause-ready
run_with-p-requires-clause-ready c = first_ready c.requires.begins c.new.ensures

pub returns-in_err-refused_first-clause-ends : goal.returns-in_err-refused_first-clause-ends
returns-in_err-refused_first-clause-ends c =
    rw (refused_by _ _ c.from_residual.ensures.1)
    (refused_ends c.requires.begins c.new.ensures c.run_with-p.ensures.runs c.in_err-refused_first.ensures.refusal)

pub returns-in_err-refused_first-clause-told : goal.returns-in_err-refused_first-clause-told
returns-in_err-refused_first-clause-told c = told_by _ _ c.from_residual.ensures.1 c.in_err-refused_first.ensures.told

pub clear_names-requires : goal.clear_names-requires
clear_names-requires c = (
  omega (arith, work_long_lem c.requires.begins, c.run_with-p.ensures.same.work_long),
  rw c.len.ensures (first_rested c.requires.begins c.new.ensures c.run_with-p.ensures.runs),
)

pub run_with-q-requires-clause-ready : goal.run_with-q-requires-clause-ready
run_with-q-requires-clause-ready c =
    second_ready c.requires.begins c.new.ensures c.run_with-p.ensures.runs c.in_ok-refused_first.ensures.refusal c.new-again.ensures c.clear_names.ensures

pub returns-clause-ends : goal.returns-clause-ends
returns-clause-ends c =
    settled_ends c.requires.begins c.new.ensures c.run_with-p.ensures.runs
    c.in_ok-refused_first.ensures.refusal c.new-again.ensures c.clear_names.ensures c.run_with-q.ensures.runs c.refused_second.ensures.refusal
