-- `new`: no rows.
use Rattle.scope_map.proofs.Laws.Held.{held_new}
use Rattle.scope_map.proofs.ScopeMap.new.Goals as goal

pub returns : goal.returns
returns c = held_new
