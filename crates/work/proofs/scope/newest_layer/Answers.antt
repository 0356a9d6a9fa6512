-- `newest_layer`: the first row of the map of records.
use Rattle.work.proofs.ScopeCase.{names-length, names_room, layer_starts}
use Rattle.work.proofs.scope.newest_layer.Goals as goal

pub slice_bounds-newest_layer-end : goal.slice_bounds-newest_layer-end
slice_bounds-newest_layer-end c = names-length c.requires

pub newest_layer-requires : goal.newest_layer-requires
newest_layer-requires c = names_room c.requires

pub returns : goal.returns
returns c = layer_starts c.newest_layer.ensures
