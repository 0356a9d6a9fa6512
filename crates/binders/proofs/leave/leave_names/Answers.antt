-- `leave_names`: the names one after another.
use native.Mathlib.Omega.{arith}
use Rattle.binders.proofs.EndsCase.{leaving_starts, leaving_ends, leaving_goes, leaving_spacious, leaving_last, leaving_facts, end_few, end-inside}
use Rattle.binders.proofs.leave.leave_names.Goals as goal

pub overflow_add-at-end : goal.overflow_add-at-end
overflow_add-at-end c = record { fits = omega (arith, end_few c.requires) }

pub loop-at-init : goal.loop-at-init
loop-at-init c = leaving_starts

pub load_entry-e-requires : goal.load_entry-e-requires
load_entry-e-requires c = ((leaving_spacious c.loop-at.invariant c.requires).long, omega (arith, end_few c.requires))

pub name-requires : goal.name-requires
name-requires c = omega (arith, end-inside c.requires)

pub remove_name-q-requires : goal.remove_name-q-requires
remove_name-q-requires c = leaving_spacious c.loop-at.invariant c.requires

pub mark_last-requires : goal.mark_last-requires
mark_last-requires c = (leaving_last c.loop-at.invariant c.requires c.load_entry-e.ensures, leaving_facts c.loop-at.invariant c.requires)

pub loop-at-preserved : goal.loop-at-preserved
loop-at-preserved c =
    leaving_goes c.loop-at.invariant c.loop-at-test.true c.load_entry-e.ensures c.name.ensures c.remove_name-q.ensures c.mark_last.ensures

pub returns : goal.returns
returns c = leaving_ends c.loop-at.invariant c.loop-at-test.false
