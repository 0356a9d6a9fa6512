-- `close_scope`: the newest layer of the map of records is popped, and the rest of the table stays.
use Rattle.scope_map.specs.ScopeMap.{pop_layer}
use Rattle.scope_map.proofs.Laws.Map.{map-pop_layer}
use Rattle.pass.specs.Lambda.{close_scope}
use Rattle.work.specs.Works.{record_at}
use Rattle.work.proofs.ScopeCase.{names-length, names_room, names-replaced}
use Rattle.work.proofs.scope.close_scope.Goals as goal

pub slice_bounds-pop_from-end-2 : goal.slice_bounds-pop_from-end-2
slice_bounds-pop_from-end-2 c = names-length c.requires.0

pub pop_from-requires : goal.pop_from-requires
pop_from-requires c = (names_room c.requires.0, c.requires.1.rows)

pub returns : goal.returns
unfolding close_scope
returns c =
    let d = c.pop_from in
    names-replaced c.requires.0 d.auto.t pop_layer (map-pop_layer record_at) d.ensures
