-- `open_scope`: a layer more, and the table stays.
use Rattle.table.specs.Laws.Region.{elsewhere_same}
use Rattle.scope_map.specs.ScopeMap.{push_layer}
use Rattle.scope_map.proofs.Laws.Map.{map-push_layer}
use Rattle.pass.specs.Lambda.{open_scope}
use Rattle.work.specs.Works.{record_at, scope_length}
use Rattle.table.specs.Region.{region}
use Rattle.work.proofs.ScopeCase.{names_become}
use Rattle.work.proofs.scope.open_scope.Goals as goal

pub returns : goal.returns
unfolding open_scope
returns c = λ w. names_become push_layer (map-push_layer record_at) elsewhere_same (c.push_layer.ensures (region w 0 scope_length))
