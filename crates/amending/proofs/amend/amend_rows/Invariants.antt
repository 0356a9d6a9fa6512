-- `amend_rows`: the rows from `first` up to `to` hold what is kept of the first k.
use Prim.Native.Nat.{◌+◌, ◌≤◌}
use Rattle.amending.proofs.AmendCase.{Keeping}
use Rattle.amending.proofs.amend.amend_rows.Given as goal

abbrev pub invariant-loop-k : goal.invariant-loop-k
invariant-loop-k l = record {
  after : l.first ≤ l.to;
  few : l.to ≤ l.first + l.k;
  keeping : Keeping l.all l.d l.p l.index l.counts l.first l.initial.captured l.initial.work l.k l.to l.seen l.captured l.work;
}
