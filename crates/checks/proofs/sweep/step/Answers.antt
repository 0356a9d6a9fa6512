-- `step`: the innermost then is picked by two tests.
use mathlib.Core.Path.{refl, ◌∙◌}
use native.Mathlib.Omega.{arith}
use lib.Dec.{eqb}
use Rattle.checks.proofs.Holding.{one_more_lem, no_less, steps}
use Rattle.checks.proofs.sweep.step.Goals as goal

pub overflow_add-result : goal.overflow_add-result
overflow_add-result c = omega (arith, c.pick-3.ensures, one_more_lem (eqb c.args.children 0))

pub overflow_sub-result : goal.overflow_sub-result
overflow_sub-result c =
    omega (arith, c.pick-3.ensures, c.pick-4.ensures, no_less _ _ refl c.requires.le_word c.requires.under_nonzero (eqb c.args.children 0) _ refl)

pub returns : goal.returns
returns c =
    let q = c.requires in
    steps _ _ refl q.le_word q.under_nonzero _ q.under_in_bounds _ _ q.word_bound (omega arith) q.children_bound (record {
      word = c.pick-2.ensures ∙ rw (c.pick.ensures, c.wide-outer.ensures);
      under = rw (c.pick-3.ensures, c.pick-4.ensures);
    })
