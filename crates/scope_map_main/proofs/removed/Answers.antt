-- `removed`: the map held, without the name.
use Rattle.scope_map_main.proofs.removed.Goals as goal

pub remove-requires : goal.remove-requires
remove-requires c = c.requires.held.room

pub returns : goal.returns
returns c = record { s = _; held = c.remove.ensures.held _ c.requires.held }
