-- `leave_rows`: the rows from k on have left.
use Rattle.std.proofs.Common.{◌+◌, ◌-◌, ◌≡◌, arith}
use Rattle.scope_map.proofs.Index.{leaves_more}
use Rattle.scope_map.proofs.leave_rows.Goals as goal

pub loop-k-preserved : goal.loop-k-preserved
loop-k-preserved c =
    let e : c.loop-k.k - 1 + 1 ≡ c.loop-k.k = omega arith in
    (omega arith, omega arith, leaves_more c.loop-k.invariant.2 (rw e at c.leave.ensures))
