-- `names`: the two columns, where the form is known.
use native.Mathlib.Omega.{arith}
use mathlib.Core.Path.{◌∙◌}
use Rattle.tree.specs.Form.{names_of}
use Rattle.tree.proofs.Laws.Form.{unknown}
use Rattle.tree.proofs.Counting.{counts_names}
use Rattle.tree.proofs.form.names.Goals as goal

pub returns-then-form-gt-FORMS : goal.returns-then-form-gt-FORMS
unfolding names_of
returns-then-form-gt-FORMS c = rw (unknown _ c.if-form-gt-FORMS.true)

pub returns : goal.returns
returns c = c.of.ensures ∙ counts_names _ _ (omega arith)
