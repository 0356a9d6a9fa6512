-- `set_number`: one number of the row is written, if the row is an identifier's.
use native.Mathlib.Omega.{arith}
use mathlib.Core.Path.{sym, ◌∙◌}
use Rattle.semantic.proofs.AmendCase.{sets_number, sets_none}
use Rattle.semantic.proofs.amend.set_number.Goals as goal

pub returns-then-is_variable : goal.returns-then-is_variable
returns-then-is_variable c = sets_number _ _ _ _ (omega arith) (sym c.if-is_variable.true ∙ c.is_variable.ensures)

pub returns-else-is_variable : goal.returns-else-is_variable
returns-else-is_variable c = sets_none _ _ _ _ (sym c.if-is_variable.false ∙ c.is_variable.ensures)
