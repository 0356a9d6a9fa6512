-- `len`: the records are as many as six goes into the numbers.
use mathlib.Core.Path.{sym}
use Rattle.tree.proofs.Laws.Record.{length-records}
use Rattle.tree.proofs.record.len.Goals as goal

pub returns : goal.returns
returns c = sym (length-records c.args.rs.now)
