-- `visit_tops`: a top-level begin is passed by, and any other tree is visited.
use Prim.Native.Nat.{◌<◌}
use mathlib.Core.Path.{refl, sym, ◌∙◌}
use native.Mathlib.Omega.{arith}
use lib.ListN.{length}
use Rattle.tree.specs.Record.{records}
use Rattle.visits.proofs.TopsCase.{room, all_left, few, some_tree, begin_opened, next, next_fits, ahead, one_less, all-visited}
use Rattle.visits.proofs.Peeled.{reached}
use Rattle.visits.proofs.AnalysisPass.visit_tops.Goals.{else-inside-eq0-via-then-inside-eq0+else-form-eq-BEGIN, else-inside-eq0-via-else-inside-eq0}
use Rattle.visits.proofs.AnalysisPass.visit_tops.Goals as goal

pub loop-at-init : goal.loop-at-init
loop-at-init c = (refl, λ x. all_left x)

pub core_at-top-requires : goal.core_at-top-requires
core_at-top-requires c =
    let inside : c.loop-at.at < length (records c.args.s.now.all.now) = omega (arith, c.loop-at-test.true, c.len-n.ensures) in
    some_tree (c.loop-at.invariant.1 c.requires) inside

pub form-requires : goal.form-requires
form-requires c =
    let inside : c.loop-at.at < length (records c.args.s.now.all.now) = omega (arith, c.loop-at-test.true, c.len-n.ensures) in
    (reached (some_tree (c.loop-at.invariant.1 c.requires) inside) c.core_at-top.ensures).1

pub count-requires : goal.count-requires
count-requires c =
    let inside : c.loop-at.at < length (records c.args.s.now.all.now) = omega (arith, c.loop-at-test.true, c.len-n.ensures) in
    (reached (some_tree (c.loop-at.invariant.1 c.requires) inside) c.core_at-top.ensures).1

pub overflow_add-at : goal.overflow_add-at
overflow_add-at c =
    let inside : c.loop-at.at < length (records c.args.s.now.all.now) = omega (arith, c.loop-at-test.true, c.len-n.ensures) in
    omega (arith, reached (some_tree (c.loop-at.invariant.1 c.requires) inside) c.core_at-top.ensures)

pub loop-at-smaller-then-form-eq-BEGIN : goal.loop-at-smaller-then-form-eq-BEGIN
loop-at-smaller-then-form-eq-BEGIN c =
    let inside : c.loop-at.at < length (records c.args.s.now.all.now) = omega (arith, c.loop-at-test.true, c.len-n.ensures) in
    omega (arith, reached (some_tree (c.loop-at.invariant.1 c.requires) inside) c.core_at-top.ensures)

pub loop-at-preserved-then-form-eq-BEGIN : goal.loop-at-preserved-then-form-eq-BEGIN
loop-at-preserved-then-form-eq-BEGIN c =
    let inside : c.loop-at.at < length (records c.args.s.now.all.now) = omega (arith, c.loop-at-test.true, c.len-n.ensures) in (
      c.loop-at.invariant.0,
      λ x.
          begin_opened (c.loop-at.invariant.1 x) inside c.core_at-top.ensures c.if-inside-eq0.true
          (sym c.form.ensures ∙ c.if-form-eq-BEGIN.true) (c.wide-inside.ensures ∙ c.count.ensures),
    )

pub part_at-p-requires : goal.part_at-p-requires
part_at-p-requires c =
    let inside : c.loop-at.at < length (records c.args.s.now.all.now) = omega (arith, c.loop-at-test.true, c.len-n.ensures) in
    omega (arith, room c.args.s.now.all.now c.core_at-top.result (reached (some_tree (c.loop-at.invariant.1 c.requires) inside) c.core_at-top.ensures).1)

pub visit_top-used-requires : goal.visit_top-used-requires
visit_top-used-requires c =
    let inside : c.loop-at.at < length (records c.args.s.now.all.now) = omega (arith, c.loop-at-test.true, c.len-n.ensures) in
    next_fits
    (next (c.loop-at.invariant.1 c.requires) inside c.core_at-top.ensures (
    elim c.else-inside-eq0.branch [
      | else-inside-eq0-via-then-inside-eq0+else-form-eq-BEGIN w ↦ λ i e. w.if-form-eq-BEGIN.false (w.form.ensures ∙ e)
      | else-inside-eq0-via-else-inside-eq0 w ↦ λ i e. w.if-inside-eq0.false i
    ]
    )) c.part_at-p.ensures

pub overflow_add-at-in-loop-at : goal.overflow_add-at-in-loop-at
overflow_add-at-in-loop-at c =
    let inside : c.loop-at.at < length (records c.args.s.now.all.now) = omega (arith, c.loop-at-test.true, c.len-n.ensures) in
    let turn =
    next (c.loop-at.invariant.1 c.requires) inside c.core_at-top.ensures (
    elim c.else-inside-eq0.branch [
      | else-inside-eq0-via-then-inside-eq0+else-form-eq-BEGIN w ↦ λ i e. w.if-form-eq-BEGIN.false (w.form.ensures ∙ e)
      | else-inside-eq0-via-else-inside-eq0 w ↦ λ i e. w.if-inside-eq0.false i
    ]
    ) in
    omega (arith, ahead turn c.part_at-p.ensures c.visit_top-used.ensures.0.used, few c.requires)

pub loop-at-smaller : goal.loop-at-smaller
loop-at-smaller c =
    let inside : c.loop-at.at < length (records c.args.s.now.all.now) = omega (arith, c.loop-at-test.true, c.len-n.ensures) in
    let turn =
    next (c.loop-at.invariant.1 c.requires) inside c.core_at-top.ensures (
    elim c.else-inside-eq0.branch [
      | else-inside-eq0-via-then-inside-eq0+else-form-eq-BEGIN w ↦ λ i e. w.if-form-eq-BEGIN.false (w.form.ensures ∙ e)
      | else-inside-eq0-via-else-inside-eq0 w ↦ λ i e. w.if-inside-eq0.false i
    ]
    ) in
    omega (arith, ahead turn c.part_at-p.ensures c.visit_top-used.ensures.0.used, reached (some_tree (c.loop-at.invariant.1 c.requires) inside) c.core_at-top.ensures)

pub loop-at-preserved : goal.loop-at-preserved
loop-at-preserved c =
    let inside : c.loop-at.at < length (records c.args.s.now.all.now) = omega (arith, c.loop-at-test.true, c.len-n.ensures) in (
      c.visit_top-used.ensures.1 ∙ c.loop-at.invariant.0,
      λ x.
          one_less
          (next (c.loop-at.invariant.1 x) inside c.core_at-top.ensures (
          elim c.else-inside-eq0.branch [
            | else-inside-eq0-via-then-inside-eq0+else-form-eq-BEGIN w ↦ λ i e. w.if-form-eq-BEGIN.false (w.form.ensures ∙ e)
            | else-inside-eq0-via-else-inside-eq0 w ↦ λ i e. w.if-inside-eq0.false i
          ]
          )) c.part_at-p.ensures c.visit_top-used.ensures.0 c.saturating_sub-inside.ensures,
    )

pub returns : goal.returns
returns c = (all-visited c.loop-at.invariant.1 (omega (arith, c.loop-at-test.false, c.len-n.ensures)), c.loop-at.invariant.0)
