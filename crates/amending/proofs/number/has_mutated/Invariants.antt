-- `has_mutated`: none of the first k entries is.
use Rattle.amending.proofs.MutatedCase.{Passed}
use Rattle.amending.proofs.number.has_mutated.Given as goal

abbrev pub invariant-loop-k : goal.invariant-loop-k
invariant-loop-k l = Passed l.captured l.work l.first l.n l.k
