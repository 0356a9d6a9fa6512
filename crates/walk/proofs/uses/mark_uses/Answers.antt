-- `mark_uses`: the records are passed one by one, with the names that are due.
use native.Mathlib.Omega.{arith}
use mathlib.Core.Path.{refl, ◌∙◌}
use Rattle.tree.proofs.Laws.Stands.{tree_inside}
use Rattle.walk.proofs.Marking.{marks-start, marks_record, marks-end}
use Rattle.walk.proofs.uses.mark_uses.Goals as goal

pub loop-i-init : goal.loop-i-init
loop-i-init c =
    (omega (arith, c.requires.0.ends), refl, marks-start _ _ _ c.requires.1 c.requires.0)

pub mark_record-due-requires : goal.mark_record-due-requires
mark_record-due-requires c = omega (arith, tree_inside c.requires.0.stands, c.requires.0.ends)

pub loop-i-preserved : goal.loop-i-preserved
loop-i-preserved c =
    let m = c.mark_record-due in
    (omega arith, m.auto.marks ∙ c.loop-i.invariant.1, marks_record _ _ _ c.loop-i.invariant.2 (omega arith) m.ensures m.auto.marks)

pub returns : goal.returns
returns c = marks-end _ _ _ c.loop-i.invariant.2 (omega arith)
