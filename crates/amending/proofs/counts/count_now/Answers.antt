-- `count_now`: no row from i on is of the bottom layer, and they have given n entries of the name.
use native.Mathlib.Omega.{arith}
use mathlib.Core.Path.{refl}
use Rattle.work.specs.Laws.Works.{spacious}
use Rattle.lists.specs.Laws.Bottom.{above_start, above_next, above_found, above_last}
use Rattle.amending.proofs.NowCase.{now_start, now_next, now_last}
use Rattle.amending.proofs.counts.count_now.Goals as goal

pub loop-i-init : goal.loop-i-init
loop-i-init c = record { few = omega arith; above = above_start; counted = now_start }

pub live_at-requires : goal.live_at-requires
live_at-requires c = (spacious c.requires.1.works, omega arith)

pub returns-then-live_at-le1 : goal.returns-then-live_at-le1
returns-then-live_at-le1 c =
    now_last c.loop-i.invariant.counted
    (above_found c.loop-i.invariant.above c.loop-i-test.true c.loop-i.auto.i c.live_at.ensures c.if-live_at-le1.true) refl

pub loop-i-preserved-then-gives : goal.loop-i-preserved-then-gives
loop-i-preserved-then-gives c = record {
  few = omega (arith, c.loop-i.invariant.few);
  above = above_next c.loop-i.invariant.above c.loop-i-test.true c.loop-i.auto.i c.live_at.ensures c.if-live_at-le1.false;
  counted =
      now_next c.loop-i.invariant.counted c.gives.ensures c.loop-i-test.true c.loop-i.auto.i
      (let e = c.if-gives.true in rw e refl);
}

pub loop-i-preserved : goal.loop-i-preserved
loop-i-preserved c = record {
  few = omega (arith, c.loop-i.invariant.few);
  above = above_next c.loop-i.invariant.above c.loop-i-test.true c.loop-i.auto.i c.live_at.ensures c.if-live_at-le1.false;
  counted =
      now_next c.loop-i.invariant.counted c.gives.ensures c.loop-i-test.true c.loop-i.auto.i
      (let e = c.if-gives.false in rw e (omega arith));
}

pub returns : goal.returns
returns c = now_last c.loop-i.invariant.counted (above_last c.loop-i.invariant.above c.loop-i-test.false) (omega arith)
