-- `mark_lasts`: the names of the layer one after another.
use native.Mathlib.Omega.{arith}
use Rattle.work.specs.Laws.Works.{spacious}
use Rattle.binders.proofs.EndsCase.{lasting-starts, lasting_ends, lasting_goes, lasting_binder, lasting-last, lasting_facts}
use Rattle.binders.proofs.leave.mark_lasts.Goals as goal

pub loop-i-init : goal.loop-i-init
loop-i-init c = lasting-starts c.requires.1

pub live_at-r-requires : goal.live_at-r-requires
live_at-r-requires c = (spacious c.requires.0.fits.tied.works, c.loop-i-test.true)

pub load_entry-e-requires : goal.load_entry-e-requires
load_entry-e-requires c = (c.requires.0.fits.tied.works.long, omega (arith, c.wide.ensures, lasting_binder c.loop-i.invariant c.requires.0 c.live_at-r.ensures))

pub mark_last-requires : goal.mark_last-requires
mark_last-requires c = (lasting-last c.loop-i.invariant c.requires.0 c.load_entry-e.ensures, lasting_facts c.loop-i.invariant c.requires.0)

pub loop-i-preserved : goal.loop-i-preserved
loop-i-preserved c = lasting_goes c.loop-i.invariant c.live_at-r.ensures c.wide.ensures c.load_entry-e.ensures c.mark_last.ensures

pub returns : goal.returns
returns c = lasting_ends c.loop-i.invariant c.loop-i-test.false
