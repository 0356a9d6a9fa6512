-- `define`: in its row, with one row more where that is new.
use Rattle.scope_map.proofs.Cases.{with_its_row}
use Rattle.scope_map.proofs.ScopeMap.define.Goals as goal

pub returns : goal.returns
returns c = with_its_row c.define_at-place.ensures c.with_row.ensures
