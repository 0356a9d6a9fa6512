-- `put_rows`: the live names before row i are put.
use Rattle.lists.specs.Laws.Live.{Upto}
use Rattle.lists.proofs.IndexCase.{PutIn}
use Rattle.lists.proofs.index.put_rows.Given as goal

abbrev pub invariant-loop-i : goal.invariant-loop-i
invariant-loop-i l = Upto l.p l.work (PutIn l.index) l.i
