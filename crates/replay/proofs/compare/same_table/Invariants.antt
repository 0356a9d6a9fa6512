-- `same_table` goes onward.
use Rattle.replay.specs.Reads.{GoesOn}
use Rattle.replay.proofs.compare.same_table.Given as goal

abbrev pub invariant-loop-row : goal.invariant-loop-row
invariant-loop-row l = GoesOn l.fn.numbers l.numbers
