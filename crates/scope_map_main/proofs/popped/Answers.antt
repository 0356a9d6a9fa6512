-- `popped`: the map held, without its newest layer.
use Rattle.scope_map_main.proofs.popped.Goals as goal

pub pop_layer-requires : goal.pop_layer-requires
pop_layer-requires c = c.requires.held.room

pub returns : goal.returns
returns c = record { s = _; held = c.pop_layer.ensures.held _ c.requires.held }
