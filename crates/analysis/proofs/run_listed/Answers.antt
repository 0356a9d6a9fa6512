-- `run_listed`: the checks, then the runs.
use native.Mathlib.Omega.{arith}
use Rattle.analysis.proofs.Answers.{refused_by, told_by, whole_told, accepted_begins, begun-told, accepted_checks, refused-checks}
use Rattle.analysis.proofs.run_listed.Goals as goal

pub whole_as_slice-check : goal.whole_as_slice-check
whole_as_slice-check g c = omega (arith, c.requires.few)

pub shared_whole_as_slice-run_twice : goal.shared_whole_as_slice-run_twice
shared_whole_as_slice-run_twice g c = omega (arith, c.requires.few)

pub shared_whole_as_slice-run_once : goal.shared_whole_as_slice-run_once
shared_whole_as_slice-run_once g c = omega (arith, c.requires.few)

pub returns-in_err-check-clause-checks : goal.returns-in_err-check-clause-checks
returns-in_err-check-clause-checks g c = rw (refused_by _ _ c.from_residual.ensures.1) (refused-checks c.in_err-check.ensures.result_value)

pub returns-in_err-check-clause-told : goal.returns-in_err-check-clause-told
returns-in_err-check-clause-told g c = λ h. told_by _ _ c.from_residual.ensures.1 (whole_told _ _ _ h c.in_err-check.ensures.result_value)

pub run_twice-requires-clause-begins : goal.run_twice-requires-clause-begins
run_twice-requires-clause-begins g c = accepted_begins c.in_ok-check.ensures.result_value c.requires.blank

pub run_twice-requires-clause-tells_starts : goal.run_twice-requires-clause-tells_starts
run_twice-requires-clause-tells_starts g c =
    let e = c.in_ok-check.ensures in begun-told (accepted_begins e.result_value c.requires.blank) c.requires.starts_fit e.result_value e.told

pub returns-then-twice-clause-checks : goal.returns-then-twice-clause-checks
returns-then-twice-clause-checks g c = rw c.if-twice.true (accepted_checks c.in_ok-check.ensures.result_value c.run_twice.ensures.ends)

pub run_once-requires-clause-begins : goal.run_once-requires-clause-begins
run_once-requires-clause-begins g c = accepted_begins c.in_ok-check.ensures.result_value c.requires.blank

pub run_once-requires-clause-tells_starts : goal.run_once-requires-clause-tells_starts
run_once-requires-clause-tells_starts g c =
    let e = c.in_ok-check.ensures in begun-told (accepted_begins e.result_value c.requires.blank) c.requires.starts_fit e.result_value e.told

pub returns-else-twice-clause-checks : goal.returns-else-twice-clause-checks
returns-else-twice-clause-checks g c = rw c.if-twice.false (accepted_checks c.in_ok-check.ensures.result_value c.run_once.ensures.ends)
