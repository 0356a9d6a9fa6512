-- `store_entry`: the row is put in its place.
use native.Mathlib.Omega.{arith}
use Rattle.semantic.specs.Laws.Marks.{bit_low}
use Rattle.work.specs.Coded.{put_coded}
use Rattle.work.proofs.EntryCase.{stores_entry}
use Rattle.work.proofs.entries.store_entry.Goals as goal

pub overflow_mul-row : goal.overflow_mul-row
overflow_mul-row c = omega (arith, bit_low c.args.e.mutated)

pub overflow_add-row : goal.overflow_add-row
overflow_add-row c = let e = c.args.e in omega (arith, bit_low e.captured, bit_low e.mutated)

pub overflow_add-row-2 : goal.overflow_add-row-2
overflow_add-row-2 c = let e = c.args.e in omega (arith, bit_low e.captured, bit_low e.mutated)

pub returns : goal.returns
unfolding put_coded
returns c = let o = c.requires in stores_entry _ _ o.1 _ o.0 c.put.ensures
