-- `main`: each step hands on the map held.
use Rattle.scope_map_main.specs.States.{replaced}
use Rattle.scope_map_main.proofs.main.Goals as goal

pub show-requires : goal.show-requires
show-requires c = c.two_layers-a.ensures.room

pub show-requires-2 : goal.show-requires-2
show-requires-2 c = c.replaced-b.ensures.room

pub removed-c-requires : goal.removed-c-requires
removed-c-requires c = record { s = replaced; held = c.replaced-b.ensures }
