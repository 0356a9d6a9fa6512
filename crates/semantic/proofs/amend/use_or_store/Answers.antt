-- `use_or_store`: a row without a fact takes one, any other is amended.
use Rattle.semantic.proofs.AmendCase.{uses-new, uses-made}
use Rattle.semantic.proofs.amend.use_or_store.Goals as goal

pub returns-then-is_blank : goal.returns-then-is_blank
returns-then-is_blank c =
    uses-new _ c.is_blank.ensures c.if-is_blank.true
    c.store.ensures

pub returns-else-is_blank : goal.returns-else-is_blank
returns-else-is_blank c =
    uses-made _ c.is_blank.ensures c.if-is_blank.false
    c.one_use_more.ensures
