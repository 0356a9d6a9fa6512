-- `uses_name`: the records are passed one by one, with the names that are due.
use native.Mathlib.Omega.{arith}
use mathlib.Core.Path.{◌∙◌}
use Rattle.walk.proofs.UsedNames.{start, found, next, pass, end}
use Rattle.walk.proofs.uses.uses_name.Goals.{then-due-eq0+else-is_named, else-due-eq0}
use Rattle.walk.proofs.uses.uses_name.Goals as goal

pub loop-i-init : goal.loop-i-init
loop-i-init c = start _ _ _ _ c.requires

pub returns-then-is_named : goal.returns-then-is_named
returns-then-is_named c =
    found _ _ _ _ c.loop-i.invariant (omega arith) c.if-due-eq0.true c.is_named.ensures c.if-is_named.true

pub loop-i-preserved : goal.loop-i-preserved
loop-i-preserved c =
    let a = c.loop-i.invariant in
    elim c.if-due-eq0.branch [
      | then-due-eq0+else-is_named w ↦ next _ _ _ _ a (omega arith) w.if-due-eq0.true w.is_named.ensures w.if-is_named.false (w.due-is ∙ w.bound-due.ensures)
      | else-due-eq0 w ↦ pass _ _ _ _ a (omega arith) (omega arith) w.due-is
    ]

pub returns : goal.returns
returns c = end _ _ _ _ c.loop-i.invariant (omega arith)
