-- `ordered`: the records before record i are in order, and the last id is the furthest.
use native.Mathlib.Omega.{arith}
use Prim.Native.Nat.{◌≤◌}
use mathlib.Core.Path.{refl, ◌∙◌}
use lib.Dec.{eqb}
use Rattle.scans.proofs.Telling.{tells_no}
use Rattle.scans.proofs.Ordered.{picked_most, order_begin, order_next, order_fails, order_end}
use Rattle.scans.proofs.ids.ordered.Goals.{After-pick-next}
use Rattle.scans.proofs.ids.ordered.Goals as goal

-- the id of the record is small, and so is the next one to hold
next-few : (c : After-pick-next) → c.pick-next.result ≤ 4294967296
next-few c =
    let l = c.loop-i in
    omega (arith, c.pick-next.ensures, picked_most (eqb c.wide-id.result 0) l.last c.wide-id.result {m = 4294967296} l.invariant.few (omega (arith, c.wide-id.ensures)))

pub loop-i-init : goal.loop-i-init
loop-i-init c = order_begin c.args.rising c.args.rs.now c.pick-last.ensures

pub overflow_add-pick : goal.overflow_add-pick
overflow_add-pick c =
    let d = c in
    let a = d in
    omega (arith, c.pick-in-loop-i.ensures, picked_most a.args.rising a.loop-i.last d.pick-next.result {m = 4294967296} a.loop-i.invariant.few (next-few (goal.at.overflow_add-pick d).After-pick-next), c.pick-in-loop-i-2.ensures, picked_most (eqb d.wide-id.result 0) 0 1 {m = 1} (omega arith) (omega arith))

pub returns-then-pick : goal.returns-then-pick
returns-then-pick c =
    let q = c in
    let w = q in
    let l = w.loop-i in
    tells_no
    (order_fails l.invariant (w.wide-id.ensures ∙ w.id.ensures) (omega (arith, w.wide-id.ensures)) q.pick-next.ensures (omega arith)
    (omega (arith, c.pick-in-loop-i-2.ensures, c.pick-in-loop-i.ensures, c.pick.ensures, c.if-pick.true)))

pub loop-i-preserved : goal.loop-i-preserved
loop-i-preserved c =
    let q = c in
    let w = q in
    let l = w.loop-i in
    order_next l.invariant (w.wide-id.ensures ∙ w.id.ensures) (omega (arith, w.wide-id.ensures)) q.pick-next.ensures
    (omega (arith, c.pick-in-loop-i-2.ensures, c.pick-in-loop-i.ensures, c.pick.ensures, c.if-pick.false))

pub returns : goal.returns
returns c = record { yes = λ e. order_end c.loop-i.invariant (omega arith); all = λ o. refl }
