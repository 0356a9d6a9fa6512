-- `last`: check 8 alone.
use Rattle.std.proofs.Common.{arith}
use Rattle.std.proofs.lemmas.Grind.{common_steps}
use Rattle.tree.specs.Check.{check8}
use Rattle.checks.proofs.last.Goals as goal

pub returns : goal.returns
unfolding check8
returns c = λ N. grind (arith, common_steps)
