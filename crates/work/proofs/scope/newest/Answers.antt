-- `newest`: the value found, or none.
use Rattle.std.proofs.Common.{ap, Some}
use Rattle.work.proofs.ScopeCase.{names-length, names_room, newest_told}
use Rattle.work.proofs.scope.newest.Goals as goal

pub slice_bounds-get-end : goal.slice_bounds-get-end
slice_bounds-get-end c = names-length c.requires

pub get-requires : goal.get-requires
get-requires c = names_room c.requires

pub returns-in_err-found : goal.returns-in_err-found
returns-in_err-found c = newest_told c.in_err-found.ensures c.from_residual.ensures

pub returns : goal.returns
returns c = newest_told c.in_ok-found.ensures (ap Some c.wide.ensures)
