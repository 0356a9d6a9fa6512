-- `count_now`: no row from i on is of the bottom layer, and they have given n entries of the name.
use Prim.Native.Nat.{◌+◌, ◌≤◌}
use Rattle.lists.specs.Laws.Live.{Upto}
use Rattle.lists.specs.Laws.Bottom.{Above}
use Rattle.amending.proofs.NowCase.{NowFrom}
use Rattle.amending.proofs.counts.count_now.Given as goal

abbrev pub invariant-loop-i : goal.invariant-loop-i
invariant-loop-i l = record {
  few : l.n + l.i ≤ l.p.scope.length;
  above : Above l.p l.work l.i;
  counted : Upto l.p l.work (NowFrom l.all l.names l.name l.n) l.i;
}
