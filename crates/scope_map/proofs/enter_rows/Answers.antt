-- `enter_rows`: the rows before k have entered.
use native.Mathlib.Omega.{arith}
use Rattle.scope_map.proofs.Index.{moves_more}
use Rattle.scope_map.proofs.enter_rows.Goals as goal

pub loop-k-preserved : goal.loop-k-preserved
loop-k-preserved c = (omega arith, omega arith, moves_more c.loop-k.invariant.0 (omega arith) c.loop-k.invariant.2 c.read-row.ensures c.enter.ensures)
