-- `where_captured`.
use mathlib.Core.Bool.{true, false}
use Rattle.lists.proofs.IndexCase.{tells_captured}
use Rattle.lists.proofs.index.where_captured.Goals as goal

pub returns-then-load_entry : goal.returns-then-load_entry
returns-then-load_entry c = tells_captured c.load_entry.ensures true c.if-load_entry.true

pub returns-else-load_entry : goal.returns-else-load_entry
returns-else-load_entry c = tells_captured c.load_entry.ensures false c.if-load_entry.false
