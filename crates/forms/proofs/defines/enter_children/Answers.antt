-- `enter_children`: the trees are gone through one after another.
use mathlib.Core.Path.{refl}
use native.Mathlib.Omega.{arith}
use Rattle.forms.proofs.ChildrenCase.{going_starts, going_ends, going_goes, going_fits, going_tree, going_few, going_room}
use Rattle.forms.proofs.defines.enter_children.Goals as goal

pub loop-i-init : goal.loop-i-init
loop-i-init c =
    (refl, refl, rw c.name_in-e.ensures (omega (arith, c.requires.room)), rw c.name_in-e.ensures going_starts)

pub core_at-requires : goal.core_at-requires
core_at-requires c = going_tree c.loop-i.invariant.3 (omega arith) c.requires

pub enter_child-e-requires : goal.enter_child-e-requires
enter_child-e-requires c =
    rw c.with_name-q.ensures
    (going_fits c.loop-i.invariant.3 (omega arith) c.requires c.core_at.ensures c.loop-i.invariant.2)

pub step_over-at-requires : goal.step_over-at-requires
step_over-at-requires c = going_tree c.loop-i.invariant.3 (omega arith) c.requires

pub overflow_add-at : goal.overflow_add-at
overflow_add-at c =
    record { fits = omega (arith, going_few c.loop-i.invariant.3 (omega arith) c.requires c.step_over-at.ensures) }

pub loop-i-preserved : goal.loop-i-preserved
loop-i-preserved c =
    let g = c.loop-i.invariant.3 in
    let h = rw c.with_name-q.ensures at c.enter_child-e.ensures in (
      omega arith,
      omega arith,
      going_room g (omega arith) c.requires c.loop-i.invariant.2 c.core_at.ensures h,
      going_goes g (omega arith) c.core_at.ensures h c.step_over-at.ensures,
    )

pub returns : goal.returns
returns c = going_ends c.loop-i.invariant.3 (omega arith)
