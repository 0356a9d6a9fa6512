-- `not_a_name`: the names due are those of the innermost open record.
use native.Mathlib.Omega.{arith}
use mathlib.Core.Path.{sym, subst}
use Rattle.scans.proofs.Naming.{Naming, naming_begin, no_name_due, name_here, misnamed_here, none_misnamed}
use Rattle.scans.proofs.scan.not_a_name.Goals.{then-due-eq0, else-due-eq0+else-f-ne-IDENTIFIER}
use Rattle.scans.proofs.scan.not_a_name.Goals as goal

pub loop-i-init : goal.loop-i-init
loop-i-init c = naming_begin _

pub returns-then-f-ne-IDENTIFIER : goal.returns-then-f-ne-IDENTIFIER
returns-then-f-ne-IDENTIFIER c = λ N.
    let d = c in
    misnamed_here d.loop-i.invariant (omega arith) (omega arith) _ d.form-f.ensures c.if-f-ne-IDENTIFIER.true N

pub loop-i-preserved : goal.loop-i-preserved
loop-i-preserved c =
    let d = c in
    let a = d.loop-i.invariant in
    elim c.if-due-eq0.branch [
      | then-due-eq0 w ↦ subst (Naming _ _) (sym w.due-is) (no_name_due a (omega arith) w.if-due-eq0.true _ _ _ d.form-f.ensures w.count.ensures w.names-due.ensures)
      | else-due-eq0+else-f-ne-IDENTIFIER w ↦ subst (Naming _ _) (sym w.due-is) (name_here a (omega arith) (omega (arith, w.if-due-eq0.false)) _ d.form-f.ensures w.if-f-ne-IDENTIFIER.false)
    ]

pub returns : goal.returns
returns c = λ N. none_misnamed c.loop-i.invariant (omega arith) N
