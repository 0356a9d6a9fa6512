-- `is_self`: there is a context, and the fact refers to it.
use Rattle.forms.proofs.CallFacts.{no_context, in_context_lem}
use Rattle.forms.proofs.calls.is_self.Goals as goal

pub returns-then-p-ne-NONE : goal.returns-then-p-ne-NONE
returns-then-p-ne-NONE c = in_context_lem _ _ _ c.requires.0 c.if-p-ne-NONE.true c.refers_at.ensures

pub returns-else-p-ne-NONE : goal.returns-else-p-ne-NONE
returns-else-p-ne-NONE c = no_context _ _ _ c.if-p-ne-NONE.false
