-- `enter_child`: a define whose body is a lambda enters.
use mathlib.Core.Path.{sym, ◌∙◌}
use Rattle.forms.proofs.ChildrenCase.{child_inside, no_define, child_body, child_room, child_lambda, child_value}
use Rattle.forms.proofs.defines.enter_child.Goals as goal

pub form-requires : goal.form-requires
form-requires c =
    child_inside c.args.classes.now _ _ c.args.kind _ _ _ c.requires

pub returns-then-form-ne-DEFINE : goal.returns-then-form-ne-DEFINE
returns-then-form-ne-DEFINE c =
    rw c.name_in.ensures (no_define _ _ _ _ _ _ _ (λ e. c.if-form-ne-DEFINE.true (c.form.ensures ∙ e)))

pub body_at-b-requires : goal.body_at-b-requires
body_at-b-requires c =
    child_body c.args.classes.now _ _ c.args.kind _ _ _ (sym c.form.ensures ∙ c.if-form-ne-DEFINE.false) c.requires

pub enter_define-requires : goal.enter_define-requires
enter_define-requires c =
    child_room c.args.classes.now _ _ c.args.kind _ _ _ (sym c.form.ensures ∙ c.if-form-ne-DEFINE.false) c.requires

pub returns-then-b : goal.returns-then-b
returns-then-b c =
    child_lambda _ _ _ _ _ _ _ (sym c.form.ensures ∙ c.if-form-ne-DEFINE.false) c.body_at-b.ensures c.if-b.true c.enter_define.ensures

pub returns : goal.returns
returns c =
    rw c.name_in-2.ensures
    (child_value _ _ _ _ _ _ _ (sym c.form.ensures ∙ c.if-form-ne-DEFINE.false) c.body_at-b.ensures c.if-b.false)
