-- `field_outside`: a search for a record that does not fit.
use native.Mathlib.Omega.{arith}
use mathlib.Core.Bool.{not}
use mathlib.Core.Path.{◌≡◌, sym, ap, ◌∙◌}
use Rattle.tree.specs.Record.{nth}
use Rattle.tree.specs.Form.{fits}
use Rattle.tree.specs.Check.{check3}
use Rattle.scans.proofs.Limiting.{fit-told}
use Rattle.scans.proofs.Search.{begin, hit, next, end}
use Rattle.scans.proofs.scan.field_outside.Goals.{After-fit}
use Rattle.scans.proofs.scan.field_outside.Goals as goal

told : (c : After-fit) → let l = c in let s = l in c.fit.result ≡ fits s.args.names (nth s.args.rs.now l.loop-i.i)
told c = let l = c in fit-told _ l.new-limits.ensures _ c.fit.ensures

pub loop-i-init : goal.loop-i-init
loop-i-init c = begin _ _

pub returns-then-not-fit : goal.returns-then-not-fit
unfolding check3
returns-then-not-fit c = hit _ _ c.loop-i.invariant (omega arith) (ap not (sym (told (goal.at.returns-then-not-fit c).After-fit) ∙ c.if-not-fit.true))

pub loop-i-preserved : goal.loop-i-preserved
loop-i-preserved c = next _ _ c.loop-i.invariant (omega arith) (ap not (sym (told (goal.at.loop-i-preserved c).After-fit) ∙ c.if-not-fit.false))

pub returns : goal.returns
unfolding check3
returns c = end _ _ c.loop-i.invariant (omega arith)
