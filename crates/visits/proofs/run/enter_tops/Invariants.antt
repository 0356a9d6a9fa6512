-- `enter_tops`: the trees are gone through one after another, as the table tells where they start.
use mathlib.Core.Path.{◌≡◌}
use lib.ListN.{length, get_or}
use Rattle.visits.specs.Tops.{TopsEnter}
use Rattle.visits.proofs.TopsEnterCase.{Left}
use Rattle.visits.proofs.run.enter_tops.Given as goal

abbrev pub invariant-loop-top : goal.invariant-loop-top
invariant-loop-top l =
    (length l.facts ≡ length l.initial.facts) × (length l.work ≡ length l.initial.work)
    × ((x : TopsEnter l.s.classes.now l.s.all.now l.initial.p l.initial.facts l.initial.work)
    → Left x l.tops l.top-index (get_or l.tops l.top-index 0) l.p l.facts l.work)
