-- `clear_context`: by whether the target refers to the context.
use Rattle.forms.proofs.CallFacts.{cleared, uncleared}
use Rattle.forms.proofs.calls.clear_context.Goals as goal

pub returns-then-is_self : goal.returns-then-is_self
returns-then-is_self c = cleared _ _ _ c.is_self.ensures c.if-is_self.true

pub returns-else-is_self : goal.returns-else-is_self
returns-else-is_self c = uncleared _ _ _ c.is_self.ensures c.if-is_self.false
