-- `clear_name`.
use Rattle.lists.proofs.IndexCase.{clear_past, clear_in}
use Rattle.lists.proofs.index.clear_name.Goals as goal

pub returns-then-x-index : goal.returns-then-x-index
returns-then-x-index c = clear_in

pub returns-else-x-index : goal.returns-else-x-index
returns-else-x-index c = clear_past c.if-x-index.false
