-- `run_checked`: the table of either size has room.
use native.Mathlib.Omega.{arith}
use Rattle.analysis.proofs.Answers.{starts_fit}
use Rattle.analysis.proofs.run_checked.Goals as goal

pub run_listed-requires-clause-starts_fit : goal.run_listed-requires-clause-starts_fit
run_listed-requires-clause-starts_fit c = starts_fit 512 (λ _. omega (arith, c.if-len-le-FEW.true, c.len.ensures))

pub run_listed-requires-else-len-le-FEW-clause-starts_fit : goal.run_listed-requires-else-len-le-FEW-clause-starts_fit
run_listed-requires-else-len-le-FEW-clause-starts_fit c = starts_fit 4096 (λ h. h)
