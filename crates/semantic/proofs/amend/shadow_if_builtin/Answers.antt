-- `shadow_if_builtin`: a builtin's row has 1 at its place.
use Rattle.semantic.proofs.AmendCase.{shadows_builtin, shadows-none}
use Rattle.semantic.proofs.amend.shadow_if_builtin.Goals as goal

pub returns-then-facts-at-eq1 : goal.returns-then-facts-at-eq1
returns-then-facts-at-eq1 c = shadows_builtin _ _ c.if-facts-at-eq1.true c.set_number.ensures

pub returns-else-facts-at-eq1 : goal.returns-else-facts-at-eq1
returns-else-facts-at-eq1 c = shadows-none _ _ c.if-facts-at-eq1.false
