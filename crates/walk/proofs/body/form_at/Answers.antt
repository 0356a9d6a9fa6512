-- `form_at`: by the form's number.
use native.Mathlib.Omega.{arith}
use Rattle.std.proofs.Common.{rules}
use mathlib.Core.Path.{sym, ◌∙◌}
use Rattle.tree.proofs.Laws.Stands.{root}
use Rattle.walk.proofs.Bodies.{head_stands, reached, some_tree, ident_body, lambda_body_lem, call_body, other_body}
use Rattle.walk.proofs.body.form_at.Goals as goal

pub form-form-requires : goal.form-form-requires
form-form-requires c = (root c.requires.stands).inside

pub core_at-requires : goal.core_at-requires
core_at-requires c =
    some_tree (head_stands (sym c.form-form.ensures ∙ c.in-8.is) c.requires)

pub is_ident_of-requires : goal.is_ident_of-requires
is_ident_of-requires c =
    (reached c.core_at.ensures (head_stands (sym c.form-form.ensures ∙ c.in-8.is) c.requires), omega arith)

pub returns-in-1 : goal.returns-in-1
returns-in-1 c =
    ident_body _ _ _ c.form-form.ensures c.in-1.is c.id.ensures c.plain_body.ensures

pub returns-in-6 : goal.returns-in-6
returns-in-6 c =
    lambda_body_lem _ _ _ c.form-form.ensures c.in-6.is c.plain_body-in-6.ensures

pub returns-in-8 : goal.returns-in-8
returns-in-8 c =
    call_body _ _ _ c.form-form.ensures c.in-8.is c.is_builtin.ensures c.core_at.ensures c.is_ident_of.ensures

pub returns-in_default : goal.returns-in_default
returns-in_default c =
    other_body _ _ _ c.form-form.ensures (search rules) (search rules) (search rules) c.plain_body-in_default.ensures
