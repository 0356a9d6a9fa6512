-- `mark_arguments`: the arguments are marked one after another.
use mathlib.Core.Path.{refl}
use native.Mathlib.Omega.{arith}
use Rattle.forms.proofs.CallsCase.{marking_starts, marking_ends, marking_goes, marking_fits, marking_tree, marking_few}
use Rattle.forms.proofs.calls.mark_arguments.Goals as goal

pub loop-i-init : goal.loop-i-init
loop-i-init c = (refl, marking_starts)

pub core_at-requires : goal.core_at-requires
core_at-requires c = marking_tree c.loop-i.invariant.1 c.requires (omega arith)

pub mark_argument-requires : goal.mark_argument-requires
mark_argument-requires c = marking_fits c.loop-i.invariant.1 c.requires (omega arith) c.core_at.ensures

pub step_over-at-requires : goal.step_over-at-requires
step_over-at-requires c = marking_tree c.loop-i.invariant.1 c.requires (omega arith)

pub overflow_add-at : goal.overflow_add-at
overflow_add-at c = record { fits = omega (arith, marking_few c.loop-i.invariant.1 c.requires (omega arith) c.step_over-at.ensures) }

pub loop-i-preserved : goal.loop-i-preserved
loop-i-preserved c = (omega arith, marking_goes c.loop-i.invariant.1 (omega arith) c.core_at.ensures c.mark_argument.ensures c.step_over-at.ensures)

pub returns : goal.returns
returns c = marking_ends c.loop-i.invariant.1 (omega arith)
