-- `remove`: nothing, or a row is gone.
use Rattle.scope_map.proofs.Cases.{remove-none, remove-some}
use Rattle.scope_map.proofs.ScopeMap.remove.Goals as goal

pub returns-then-length-place : goal.returns-then-length-place
returns-then-length-place c = remove-none c.place-place.ensures c.if-length-place.true

pub returns : goal.returns
returns c =
    let l = c in
    let p = l in
    remove-some p.place-place.ensures p.requires l.leave_rows.ensures c.enter_rows.ensures l.if-length-place.false
