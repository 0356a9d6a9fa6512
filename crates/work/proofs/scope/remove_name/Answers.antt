-- `remove_name`: the map of records loses the name, and the rest of the table stays.
use Rattle.scope_map.specs.ScopeMap.{remove}
use Rattle.scope_map.proofs.Laws.Map.{map-remove}
use Rattle.work.specs.Works.{record_at}
use Rattle.work.proofs.ScopeCase.{names-length, names_room, names-replaced}
use Rattle.work.proofs.scope.remove_name.Goals as goal

pub slice_bounds-remove-end-2 : goal.slice_bounds-remove-end-2
slice_bounds-remove-end-2 c = names-length c.requires

pub remove-requires : goal.remove-requires
remove-requires c = names_room c.requires

pub returns : goal.returns
returns c =
    let d = c.remove in
    names-replaced c.requires d.auto.t (remove _) (map-remove record_at _) d.ensures
