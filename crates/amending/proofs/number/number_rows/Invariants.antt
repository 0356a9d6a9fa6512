-- `number_rows`: what is left of the rows gives the whole.
use Prim.Native.Nat.{◌≤◌}
use Rattle.amending.proofs.NumberCase.{Numbering}
use Rattle.amending.proofs.number.number_rows.Given as goal

abbrev pub invariant-loop-k : goal.invariant-loop-k
invariant-loop-k l = record {
  few : l.i ≤ l.k;
  numbering : Numbering l.heap l.n l.first l.initial.q l.initial.captured l.initial.work l.k l.i l.q l.captured l.work;
}
