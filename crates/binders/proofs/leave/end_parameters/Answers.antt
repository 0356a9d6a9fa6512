-- `end_parameters`: the parameters one after another.
use native.Mathlib.Omega.{arith}
use Rattle.binders.proofs.EndsCase.{ending-starts, ending_ends, ending_goes, ending-known, ending_fact, end_few, end-inside}
use Rattle.binders.proofs.leave.end_parameters.Goals as goal

pub overflow_add-at-end : goal.overflow_add-at-end
overflow_add-at-end c = record { fits = omega (arith, end_few c.requires) }

pub loop-at-init : goal.loop-at-init
loop-at-init c = ending-starts

pub load_entry-e-requires : goal.load_entry-e-requires
load_entry-e-requires c = (c.requires.fits.tied.works.long, omega (arith, end_few c.requires))

pub name-requires : goal.name-requires
name-requires c = omega (arith, end-inside c.requires)

pub newest_id-hidden-requires : goal.newest_id-hidden-requires
newest_id-hidden-requires c = ending-known c.loop-at.invariant c.requires

pub end_parameter-requires : goal.end_parameter-requires
end_parameter-requires c = ending_fact c.loop-at.invariant c.requires (omega (arith, end_few c.requires))

pub loop-at-preserved : goal.loop-at-preserved
loop-at-preserved c =
    ending_goes c.loop-at.invariant c.loop-at-test.true c.load_entry-e.ensures c.name.ensures c.newest_id-hidden.ensures c.end_parameter.ensures

pub returns : goal.returns
returns c = ending_ends c.loop-at.invariant c.loop-at-test.false
