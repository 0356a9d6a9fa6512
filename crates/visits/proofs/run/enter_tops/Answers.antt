-- `enter_tops`: the trees are gone through one after another, as the table tells where they start.
use mathlib.Core.Path.{refl}
use native.Mathlib.Omega.{arith}
use Rattle.visits.specs.Tops.{TopsEnter}
use Rattle.visits.proofs.TopsEnterCase.{Next, all_left, in_table, read_left, next, next_fits, one_less, all-entered}
use Rattle.visits.proofs.run.enter_tops.Goals.{Else-n-at}
use Rattle.visits.proofs.run.enter_tops.Goals as goal

-- the tree at the record is the next one
turn : (c : Else-n-at) →
    let o = c.args in
    let l = c.loop-top in
    (x : TopsEnter o.s.now.classes.now o.s.now.all.now o.p.now o.facts.now o.work.now) → Next x o.tops.now l.top-index c.from-at.result l.p l.facts l.work
turn c x = next (read_left (c.loop-top.invariant.2 x) c.from-at.ensures) (omega (arith, c.if-n-at.false, c.len-n.ensures))

pub loop-top-init : goal.loop-top-init
loop-top-init c = (refl, refl, λ x. read_left (all_left c.requires.0 x) refl)

pub returns-then-n-at : goal.returns-then-n-at
returns-then-n-at c = all-entered (λ x. read_left (c.loop-top.invariant.2 x) c.from-at.ensures) (omega (arith, c.if-n-at.true, c.len-n.ensures))

pub enter_top-requires : goal.enter_top-requires
enter_top-requires c = next_fits (turn (goal.at.enter_top-requires c).Else-n-at c.requires.1)

pub loop-top-preserved : goal.loop-top-preserved
loop-top-preserved c = (
  omega arith,
  omega arith,
  λ x. read_left (one_less (turn (goal.at.loop-top-preserved c).Else-n-at x) c.enter_top.ensures) refl,
)

-- the table does not end before the number of records
pub returns : goal.returns
returns c = record { is = λ x. absurd (omega (arith, in_table (c.loop-top.invariant.2 x), c.loop-top-test.false)) }
