-- `same_row` goes onward.
use Rattle.replay.specs.Reads.{GoesOn}
use Rattle.replay.proofs.compare.same_row.Given as goal

abbrev pub invariant-loop-x : goal.invariant-loop-x
invariant-loop-x l = GoesOn l.fn.numbers l.numbers
