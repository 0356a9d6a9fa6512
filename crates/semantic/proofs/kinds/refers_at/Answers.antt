-- `refers_at`: an identifier's row holds the id.
use mathlib.Core.Path.{sym, ◌∙◌}
use Rattle.semantic.proofs.RowCase.{refers, no_refers}
use Rattle.semantic.proofs.kinds.refers_at.Goals as goal

pub returns-then-is_variable : goal.returns-then-is_variable
returns-then-is_variable c = refers _ _ (sym c.if-is_variable.true ∙ c.is_variable.ensures)

pub returns : goal.returns
returns c = no_refers _ _ (sym c.if-is_variable.false ∙ c.is_variable.ensures)
