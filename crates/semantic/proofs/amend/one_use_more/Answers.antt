-- `one_use_more`: the count is one more, if the row is an identifier's; that it fits is required.
use mathlib.Core.Path.{sym, ◌∙◌}
use Rattle.semantic.specs.Laws.Kinds.{variable_told}
use Rattle.semantic.proofs.AmendCase.{counts, amends_other}
use Rattle.semantic.proofs.amend.one_use_more.Goals as goal

pub returns-then-is_variable : goal.returns-then-is_variable
returns-then-is_variable c = counts _ _ (sym c.if-is_variable.true ∙ c.is_variable.ensures)

pub returns-else-is_variable : goal.returns-else-is_variable
returns-else-is_variable c = amends_other _ _ _ (variable_told _ _ (sym c.if-is_variable.false ∙ c.is_variable.ensures))
