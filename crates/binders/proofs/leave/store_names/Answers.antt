-- `store_names`: the names one after another.
use mathlib.Core.Path.{refl}
use native.Mathlib.Omega.{arith}
use Rattle.binders.proofs.ArgumentsCase.{store_few, storing_starts, storing_ends, storing_goes, storing_room, storing_table, storing_binder}
use Rattle.binders.proofs.leave.store_names.Goals as goal

pub overflow_add-at-end : goal.overflow_add-at-end
overflow_add-at-end c = record { fits = omega (arith, store_few c.requires) }

pub loop-at-init : goal.loop-at-init
loop-at-init c = storing_starts

pub store_argument-requires : goal.store_argument-requires
store_argument-requires c =
    let m = c.loop-at.invariant in
    (storing_binder m c.requires c.loop-at-test.true, storing_room m c.requires c.loop-at-test.true, storing_table m c.requires)

pub overflow_add-to : goal.overflow_add-to
overflow_add-to c = record { fits = omega (arith, storing_room c.loop-at.invariant c.requires c.loop-at-test.true) }

pub loop-at-preserved : goal.loop-at-preserved
loop-at-preserved c =
    let m = c.loop-at.invariant in
    storing_goes m c.loop-at-test.true (storing_room m c.requires c.loop-at-test.true) c.store_argument.ensures

pub returns : goal.returns
returns c = storing_ends c.loop-at.invariant c.loop-at-test.false refl
