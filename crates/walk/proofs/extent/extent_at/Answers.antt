-- `extent_at`: the children to come are counted.
use Prim.Native.Nat.{◌<◌}
use native.Mathlib.Omega.{arith}
use lib.ListN.{length}
use Rattle.tree.specs.Record.{records}
use Rattle.walk.proofs.Span.{Small, ahead, small, known, next, ended}
use Rattle.walk.proofs.extent.extent_at.Goals.{In-loop-open}
use Rattle.walk.proofs.extent.extent_at.Goals as goal

left : (c : In-loop-open) → c.loop-open.i < length (records c.args.all.now)
left c = ahead c.loop-open.invariant (omega arith) c.requires

few : (c : In-loop-open) → let l = c.loop-open in Small l.«open» l.i
few c = small c.loop-open.invariant (omega arith) c.requires

pub known_children-requires-clause-i_in_bounds : goal.known_children-requires-clause-i_in_bounds
known_children-requires-clause-i_in_bounds c = left (goal.at.known_children-requires-clause-i_in_bounds c).In-loop-open

pub known_children-requires-clause-i_value : goal.known_children-requires-clause-i_value
known_children-requires-clause-i_value c = known c.loop-open.invariant (omega arith) c.requires

pub overflow_add-open : goal.overflow_add-open
overflow_add-open c = let h = few (goal.at.overflow_add-open c).In-loop-open in omega arith

pub overflow_add-i : goal.overflow_add-i
overflow_add-i c = let h = few (goal.at.overflow_add-i c).In-loop-open in omega arith

pub loop-open-smaller : goal.loop-open-smaller
loop-open-smaller c = let h = left (goal.at.loop-open-smaller c).In-loop-open in omega arith

pub loop-open-preserved : goal.loop-open-preserved
loop-open-preserved c = next c.loop-open.invariant (omega arith) (left (goal.at.loop-open-preserved c).In-loop-open) c.known_children.ensures.value c.known_children.ensures.few

pub returns : goal.returns
returns c = ended c.loop-open.invariant (omega arith)
