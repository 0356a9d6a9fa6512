-- `core_at`: ands of one child are stepped over.
use native.Mathlib.Omega.{arith}
use mathlib.Core.Path.{sym, ◌∙◌}
use Rattle.walk.proofs.Peeling.{inside, small, next, ended}
use Rattle.walk.proofs.body.core_at.Goals as goal

pub is_and_of_one-requires : goal.is_and_of_one-requires
is_and_of_one-requires c = inside c.loop-i.invariant c.requires

pub overflow_add-i : goal.overflow_add-i
overflow_add-i c = let h = small c.loop-i.invariant c.requires in omega arith

pub loop-i-preserved : goal.loop-i-preserved
loop-i-preserved c = next c.loop-i.invariant (sym c.is_and_of_one.ensures ∙ c.loop-i-test.true)

pub returns : goal.returns
returns c = ended c.loop-i.invariant (sym c.is_and_of_one.ensures ∙ c.loop-i-test.false)
