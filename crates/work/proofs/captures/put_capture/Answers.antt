-- `put_capture`: the row is put in its place.
use native.Mathlib.Omega.{arith}
use Rattle.semantic.specs.Laws.Marks.{bit_low}
use Rattle.work.specs.Coded.{put_capture}
use Rattle.work.proofs.captures.put_capture.Goals as goal

pub overflow_add-rest : goal.overflow_add-rest
overflow_add-rest c = omega (arith, bit_low c.args.t.enclosing)

pub overflow_mul-row : goal.overflow_mul-row
overflow_mul-row c = omega (arith, bit_low c.args.t.enclosing)

pub overflow_add-row : goal.overflow_add-row
overflow_add-row c = omega (arith, bit_low c.args.t.enclosing)

pub returns : goal.returns
unfolding put_capture
returns c = c.put.ensures
