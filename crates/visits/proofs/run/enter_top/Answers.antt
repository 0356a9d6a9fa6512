-- `enter_top`: the children of a begin enter, or the define, or none.
use mathlib.Core.Path.{◌≡◌, sym, ◌∙◌}
use native.Mathlib.Omega.{arith}
use Rattle.tree.specs.Record.{nth}
use Rattle.visits.proofs.TopsEnterCase.{some_tree, children_fit, child_fits, children_enter, child_enters, none_enters}
use Rattle.visits.proofs.Peeled.{reached}
use Rattle.visits.proofs.run.enter_top.Goals.{Else-form-eq-BEGIN}
use Rattle.visits.proofs.run.enter_top.Goals as goal

-- the places that are looked back to, each from one after it

no-begin : (c : Else-form-eq-BEGIN) →
    let found = c in
    (nth found.args.s.now.all.now found.core_at-top.result).form ≡ 7 → ⊥
no-begin c e = c.if-form-eq-BEGIN.false (c.form-form.ensures ∙ e)

pub core_at-top-requires : goal.core_at-top-requires
core_at-top-requires c = some_tree c.requires

pub form-form-requires : goal.form-form-requires
form-form-requires c = (reached (some_tree c.requires) c.core_at-top.ensures).1

pub count-requires : goal.count-requires
count-requires c = let found = c in (reached (some_tree found.requires) found.core_at-top.ensures).1

pub overflow_add-top : goal.overflow_add-top
overflow_add-top c = let found = c in omega (arith, (reached (some_tree found.requires) found.core_at-top.ensures).2)

pub enter_defines-requires : goal.enter_defines-requires
enter_defines-requires c =
    let counted = c in
    let test = counted in
    let found = test in
    children_fit found.requires found.core_at-top.ensures (sym test.form-form.ensures ∙ test.if-form-eq-BEGIN.true)
    (counted.wide-count.ensures ∙ counted.count.ensures)

pub returns-then-form-eq-BEGIN : goal.returns-then-form-eq-BEGIN
returns-then-form-eq-BEGIN c =
    let entered = c in
    let counted = entered in
    let test = counted in
    children_enter test.core_at-top.ensures (sym test.form-form.ensures ∙ test.if-form-eq-BEGIN.true)
    (counted.wide-count.ensures ∙ counted.count.ensures) entered.enter_defines.ensures

pub enter_defines-requires-then-form-eq-DEFINE : goal.enter_defines-requires-then-form-eq-DEFINE
enter_defines-requires-then-form-eq-DEFINE c =
    let other = c in
    let found = other in
    child_fits found.requires found.core_at-top.ensures (no-begin (goal.at.enter_defines-requires-then-form-eq-DEFINE other).Else-form-eq-BEGIN)

pub returns-then-form-eq-DEFINE : goal.returns-then-form-eq-DEFINE
returns-then-form-eq-DEFINE c =
    let entered = c in
    let other = entered in
    child_enters other.core_at-top.ensures (no-begin (goal.at.returns-then-form-eq-DEFINE other).Else-form-eq-BEGIN) entered.enter_defines-then-form-eq-DEFINE.ensures

pub returns-else-form-eq-DEFINE : goal.returns-else-form-eq-DEFINE
returns-else-form-eq-DEFINE c =
    let other = c in
    none_enters other.core_at-top.ensures (no-begin (goal.at.returns-else-form-eq-DEFINE other).Else-form-eq-BEGIN) (λ e. c.if-form-eq-DEFINE.false (other.form-form.ensures ∙ e))
