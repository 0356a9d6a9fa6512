-- `count_calls`: after i rows the counts are those of the first i.
use mathlib.Core.Path.{refl}
use native.Mathlib.Omega.{arith}
use Rattle.semantic.specs.Kinds.{is_call_site, is_tail_row}
use Rattle.semantic.specs.Laws.Marks.{bit_low}
use Rattle.printing.specs.Text.{count}
use Rattle.printing.proofs.Count.{count_turn, count-end}
use Rattle.printing.proofs.summary.count_calls.Goals as goal

pub loop-i-init : goal.loop-i-init
unfolding count
loop-i-init c = record { few = omega arith; fewer = omega arith; all = λ l e. refl; tail = λ l e. refl }

pub loop-i-preserved : goal.loop-i-preserved
loop-i-preserved c =
    let F = c.args.facts.now in
    let v = c.loop-i in
    let h = c.loop-i-test.true in
    record {
      few = omega (arith, c.from.ensures, bit_low c.is_call.result);
      fewer = omega (arith, c.from-in-loop-i.ensures, bit_low c.is_tail.result);
      all = λ l e. count_turn is_call_site F l v.i v.calls.all e h c.is_call.ensures c.from.ensures (v.invariant.all l e);
      tail = λ l e. count_turn is_tail_row F l v.i v.calls.tail e h c.is_tail.ensures c.from-in-loop-i.ensures (v.invariant.tail l e);
    }

pub returns : goal.returns
returns c =
    let F = c.args.facts.now in
    let v = c.loop-i in
    let h = c.loop-i-test.false in
    record {
      all = λ l e. count-end is_call_site F l v.i v.calls.all e h (v.invariant.all l e);
      tail = λ l e. count-end is_tail_row F l v.i v.calls.tail e h (v.invariant.tail l e);
    }
