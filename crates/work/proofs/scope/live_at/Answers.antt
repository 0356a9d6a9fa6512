-- `live_at`: a row of the map is a live name.
use Rattle.work.proofs.ScopeCase.{names-length, names_room, live_told}
use Rattle.work.proofs.scope.live_at.Goals as goal

pub slice_bounds-row_at-end : goal.slice_bounds-row_at-end
slice_bounds-row_at-end c = names-length c.requires.0

pub row_at-requires : goal.row_at-requires
row_at-requires c = (c.requires.1, names_room c.requires.0)

pub returns : goal.returns
returns c = live_told c.requires.1 c.row_at.ensures
