-- `field`: a whole record lies within the numbers.
use native.Mathlib.Omega.{arith}
use Rattle.tree.proofs.Laws.Record.{length-records, nth_field}
use Rattle.tree.proofs.record.field.Goals as goal

pub overflow_mul-result : goal.overflow_mul-result
overflow_mul-result c = omega (arith, length-records c.args.rs.now)

pub overflow_add-result : goal.overflow_add-result
overflow_add-result c = omega (arith, length-records c.args.rs.now)

pub offset_bounds-rs-i : goal.offset_bounds-rs-i
offset_bounds-rs-i c = omega (arith, length-records c.args.rs.now)

pub bounds-rs-i : goal.bounds-rs-i
bounds-rs-i c = omega (arith, length-records c.args.rs.now)

pub returns : goal.returns
returns c = let o = c in nth_field o.args.rs.now o.args.i o.args.j o.requires.0 o.requires.1
