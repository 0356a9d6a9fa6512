-- What holds at places of `visit_arguments`.
use Prim.Native.Nat.{ℕ, ◌-◌}
use Rattle.visits.specs.Lent.{raw_of}
use Rattle.visits.proofs.RowCase as row_case
use native.Mathlib.Omega.{arith}
use Rattle.visits.proofs.AnalysisPass.+visits.Goals.{visit_arguments-In-loop}

pub here : (t : ℕ) (c : visit_arguments-In-loop t) → let l = c.loop in
    row_case.Next c.requires l.used (c.args.k - l.counter) l.g (raw_of l.self)
here t c =
    row_case.next (c.loop.invariant.2 c.requires) (omega (arith, c.loop-test.true))
