-- `clear_list_entries`: the numbers first, then the binders of the rows before r.
use Rattle.amending.proofs.ClearCase.{unbound-start, unbound-next, unbound-last, clears}
use Rattle.amending.proofs.amend.clear_list_entries.Goals as goal

pub loop-r-init : goal.loop-r-init
loop-r-init c = unbound-start _ _

pub loop-r-preserved : goal.loop-r-preserved
loop-r-preserved c = unbound-next c.loop-r.invariant c.loop-r.auto.r c.set_binder.ensures

pub returns : goal.returns
returns c =
    clears _ c.requires.2 c.requires.3 c.clear.ensures (unbound-last c.loop-r.invariant (c.loop-r.auto.r-end c.requires.2) c.loop-r-test.false)
