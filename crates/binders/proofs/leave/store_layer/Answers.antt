-- `store_layer`: the names of the layer one after another.
use mathlib.Core.Path.{refl}
use native.Mathlib.Omega.{arith}
use Rattle.work.specs.Laws.Works.{spacious}
use Rattle.binders.proofs.ArgumentsCase.{layering_starts, layering_ends, layering_goes, layering_room, layering_binder, layering_table}
use Rattle.binders.proofs.leave.store_layer.Goals as goal

pub newest_layer-i-requires : goal.newest_layer-i-requires
newest_layer-i-requires c = spacious c.requires.fits.tied.works

pub loop-i-init : goal.loop-i-init
loop-i-init c = layering_starts c.newest_layer-i.ensures

pub live_at-r-requires : goal.live_at-r-requires
live_at-r-requires c = (spacious c.requires.fits.tied.works, c.loop-i-test.true)

pub store_argument-requires : goal.store_argument-requires
store_argument-requires c =
    let m = c.loop-i.invariant in
    (layering_binder m c.live_at-r.ensures c.requires c.wide.ensures, layering_room m c.live_at-r.ensures c.requires, layering_table m c.requires)

pub overflow_add-to : goal.overflow_add-to
overflow_add-to c = record { fits = omega (arith, layering_room c.loop-i.invariant c.live_at-r.ensures c.requires) }

pub loop-i-preserved : goal.loop-i-preserved
loop-i-preserved c =
    let m = c.loop-i.invariant in
    layering_goes m c.live_at-r.ensures c.wide.ensures (layering_room m c.live_at-r.ensures c.requires) c.store_argument.ensures

pub returns : goal.returns
returns c = layering_ends c.loop-i.invariant c.loop-i-test.false refl
