-- `read_into` goes onward.
use Rattle.replay.specs.Reads.{GoesOn}
use Rattle.replay.proofs.read_into.Given as goal

abbrev pub invariant-loop-x : goal.invariant-loop-x
invariant-loop-x g l = GoesOn l.fn.numbers l.numbers
