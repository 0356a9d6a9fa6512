-- `leave`: the hint of the name is the link of the row.
use Rattle.scope_map.proofs.Index.{leaves_last}
use Rattle.scope_map.proofs.leave.Goals as goal

pub returns : goal.returns
returns c = leaves_last _ _ c.requires c.set_hint.ensures
