-- `visit_tops`: a top-level begin is passed by, and any other tree is visited.
use Prim.Native.Nat.{◌-◌}
use mathlib.Core.Path.{◌≡◌}
use lib.ListN.{length}
use Rattle.tree.specs.Record.{records}
use Rattle.visits.specs.Lent.{raw_of, tables}
use Rattle.visits.specs.Tops.{TopsFit}
use Rattle.visits.proofs.TopsCase.{Left}
use Rattle.visits.proofs.AnalysisPass.visit_tops.Given as goal

abbrev pub invariant-loop-at : goal.invariant-loop-at
invariant-loop-at l =
    (tables l.self ≡ tables l.initial.self)
    × ((x : TopsFit l.s.classes.now l.s.all.now (raw_of l.initial.self))
    → Left x l.at l.inside (raw_of l.self))

abbrev pub decreases-loop-at : goal.decreases-loop-at
decreases-loop-at l = length (records l.s.all.now) - l.at
