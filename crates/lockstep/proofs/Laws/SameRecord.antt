-- "both are at the same record": machines in step are, since their moments are equal.
use Rattle.std.specs.Prelude.{List, ◌≡◌}
use Rattle.std.proofs.Common.{ap}
use Rattle.tree.specs.Tree.{Trees}
use Rattle.semantic.specs.Rows.{Row}
use Rattle.r7rs.specs.Machine.{stands_at}
use Rattle.r7rs.specs.Plain.{PState}
use Rattle.lockstep.specs.Slot.{SState}
use Rattle.lockstep.specs.Lock.{InStep}

pub same_record : (ts : Trees) (T : List Row) {s : SState} {p : PState} → InStep ts T s p → stands_at s.moment ≡ stands_at p.moment
same_record ts T i = ap stands_at i.moments
