-- What holds at places of `visit_children`.
use Prim.Native.Nat.{ℕ, ◌+◌, ◌-◌}
use Rattle.visits.specs.Lent.{raw_of}
use Rattle.visits.proofs.RowCase as row_case
use lib.Dec.{eqb}
use mathlib.Core.Path.{◌≡◌}
use native.Mathlib.Omega.{arith}
use Rattle.visits.proofs.AnalysisPass.+visits.Goals.{visit_children-In-loop-i}

pub here : (t : ℕ) (c : visit_children-In-loop-i t) → let l = c.loop-i in
    row_case.Next c.requires l.used (c.args.k - l.i) c.args.f (raw_of l.self)
here t c =
    row_case.next (c.loop-i.invariant.2 c.requires) (omega (arith, c.loop-i-test.true))

pub lasts : (t : ℕ) (c : visit_children-In-loop-i t) → eqb (c.loop-i.i + 1) c.args.k ≡ eqb (c.args.k - c.loop-i.i) 1
lasts t c =
    row_case.last_of c.loop-i.i c.args.k c.loop-i-test.true
