-- `index_names`.
use Rattle.lists.proofs.IndexCase.{indexed}
use Rattle.lists.proofs.index.index_names.Goals as goal

pub returns : goal.returns
returns c =
    indexed c.put_rows.ensures c.clear_names.ensures c.clear_names.auto.index
